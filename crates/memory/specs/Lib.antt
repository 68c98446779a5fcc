pub mod Interface
pub mod Flat
pub mod Window
pub mod Sound
