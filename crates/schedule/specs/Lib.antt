pub mod Rows
pub mod Numbers
pub mod Lists
pub mod Meanings
pub mod Laws
pub mod Accepted
pub mod Refusals
pub mod Rings
