-- The proof of the bench table.
pub mod Table
