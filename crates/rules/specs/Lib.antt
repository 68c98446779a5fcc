pub mod Words
pub mod Boards
pub mod Cells
pub mod Slots
pub mod Calls
pub mod Claims
