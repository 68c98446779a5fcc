-- The computed check of the table, and the law that follows from it.
pub mod Truths
pub mod Checked
pub mod Flags
pub mod Rows
pub mod Laws
