-- Laws about the definitions of specs/, which the crates above cite in place of their text, and the turns of the loops.
pub mod Runs
pub mod Numbers
pub mod Changes
pub mod Big
pub mod Lent
pub mod Turns
