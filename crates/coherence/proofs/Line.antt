pub mod Codes
pub mod Sound
pub mod Tables
pub mod Sends
pub mod Own
