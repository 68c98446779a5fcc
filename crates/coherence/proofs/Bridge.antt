pub mod Codes
pub mod Readings
pub mod Moves
pub mod Deeds
pub mod Slots
pub mod Calls
