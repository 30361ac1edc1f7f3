-- Laws about the definitions of specs/.
pub mod Applying
pub mod Ending
pub mod NewNames
pub mod Faults
