-- The bench table. No contract cites it.
pub mod Table
