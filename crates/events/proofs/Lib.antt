-- Laws about the definitions of specs/.
pub mod Events
pub mod Checks
pub mod Walks
pub mod Traces
pub mod Lists
pub mod Faults
