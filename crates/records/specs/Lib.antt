-- What the contracts of `records` cite.
pub mod Records
pub mod Types
