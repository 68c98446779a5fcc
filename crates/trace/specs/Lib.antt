pub mod Commands
pub mod Faults
pub mod Numbers
pub mod Pieces
pub mod Words
