-- Laws about the definitions of specs/: examples; what an index holds, one turn of the walk, and the walk:
pub mod Examples
pub mod Holding
pub mod Hollow
pub mod Coding
pub mod Turning
pub mod Standing
pub mod Walking
pub mod Indexed
-- The program keeps its contracts by:
pub mod Fixing
pub mod Applying
pub mod Cursors
pub mod Going
-- What is accepted and refused, and where; what was written for a file, and the claims on it at work:
pub mod Rules
pub mod Faults
pub mod Refusals
pub mod Where
pub mod Encoding
pub mod Written
pub mod Built
pub mod Use
