pub mod Arrays
pub mod Loops
pub mod Made
pub mod Queues
pub mod Tables
pub mod Views
