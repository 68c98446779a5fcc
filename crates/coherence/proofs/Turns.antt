pub mod Counts
pub mod Turns
pub mod Waits
pub mod Arith
pub mod Next
pub mod Counting
