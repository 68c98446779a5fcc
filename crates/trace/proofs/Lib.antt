pub mod Boards
pub mod Caps
pub mod Cuts
pub mod Decimals
pub mod Fields
pub mod Parsed
