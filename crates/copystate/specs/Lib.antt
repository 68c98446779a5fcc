-- The definitions that the contracts cite.
pub mod Truth
pub mod Events
pub mod States
pub mod Table
pub mod Rules
pub mod Pairs
pub mod Waiting
pub mod Law
pub mod Soundness
