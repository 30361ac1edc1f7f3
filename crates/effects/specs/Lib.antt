-- What the contracts of `effects` cite.
pub mod Effects
pub mod Parts
