-- The definitions of the crate, in the order of document 01, then what is proved of them.
pub mod Words
pub mod Modes
pub mod Masks
pub mod Refusals
pub mod Counts
pub mod Cards
pub mod Theorems
