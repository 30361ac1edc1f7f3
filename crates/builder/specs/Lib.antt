-- What the contract of `builder` cites, and those of its inner functions; then what a build comes to, in the wish's words.
pub mod Build
pub mod Parts
pub mod Outcomes
