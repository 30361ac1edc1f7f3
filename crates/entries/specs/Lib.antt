-- What the contracts of `entries` cite: the bytes of an index, and an entry as it is read.
pub mod Bytes
pub mod Entries
pub mod Examples
