-- Laws about the definitions of specs/. The loader keeps its contracts by:
pub mod Calling
pub mod Mapped
-- Demand 2, and what else holds of every accepted file:
pub mod Rules
pub mod Lawful
pub mod Passing
pub mod Keeping
pub mod Demand2
pub mod Same
pub mod Faults
pub mod Refusals
pub mod Determinism
