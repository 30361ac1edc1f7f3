-- Laws about the definitions of specs/. One record keeps its contract by:
pub mod Checks
pub mod Fields
pub mod Applying
pub mod Faults
-- The events of pieces, what they leave in memory and in the map:
pub mod PieceEvents
pub mod Edits
pub mod Loads
pub mod Marks
-- What passes, and why the rest does not:
pub mod Passing
