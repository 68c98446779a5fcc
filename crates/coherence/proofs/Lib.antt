pub mod Turns
pub mod Line
pub mod Runs
pub mod Bridge
