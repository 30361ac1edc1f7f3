-- Laws about the definitions of specs/, which the crates above cite, and what the library counts and adds.
pub mod Digits
pub mod Ends
pub mod Whole
