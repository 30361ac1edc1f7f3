-- Laws by which `transfers` keeps its contracts.
pub mod Shifting
pub mod Gathering
pub mod Entries
pub mod Overlay
