-- What the contracts of the inner functions of `transfers` cite beside the definitions of `moves`.
pub mod Scratch
