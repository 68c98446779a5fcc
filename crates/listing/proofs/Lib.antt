pub mod Firsts
pub mod Replays
pub mod Slots
pub mod Stays
pub mod Writes
pub mod Zeros
