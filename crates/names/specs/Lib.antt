-- What the contracts of `names` cite.
pub mod Names
