-- Laws by which `builder` keeps its contracts, and the claims on what a build comes to.
pub mod Writing
pub mod Walking
pub mod Filling
pub mod Building
pub mod Outcomes
pub mod Use
