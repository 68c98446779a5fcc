mod Replacing
mod FlatWrites
mod WindowWrites
pub mod Around
