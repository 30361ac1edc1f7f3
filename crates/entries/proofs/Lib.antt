-- Laws about the definitions of specs/: examples; where an entry lies that is read, the fixups of an entry one by one, and that what was written is read back.
pub mod Examples
pub mod Reading
pub mod Listing
pub mod ReadBack
