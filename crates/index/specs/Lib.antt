-- What the contracts of `index` cite, in the order in which to read it; then the rules in plain steps, at which bases an index is accepted, and which
-- index is built from which file.
pub mod Walk
pub mod Cursor
pub mod Rules
pub mod Where
pub mod Built
pub mod Examples
