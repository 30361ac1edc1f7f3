-- What the contracts of `edges` cite.
pub mod Edges
