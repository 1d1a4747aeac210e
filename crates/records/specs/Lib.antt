-- The definitions of the crate, in the order of document 01, then what is proved of them.
pub mod Numbers
pub mod Records
pub mod Files
pub mod Theorems
