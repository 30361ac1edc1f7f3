-- What the contracts of `sdx` cite; then what that comes to, in the user's words.
pub mod Call
pub mod Rules
pub mod Demand2
pub mod Refusals
pub mod Determinism
