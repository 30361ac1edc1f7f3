-- What the contracts of `words` cite: runs of bytes in a buffer, and the numbers that such runs hold.
pub mod Runs
pub mod Numbers
