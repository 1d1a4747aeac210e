pub mod Cases
pub mod Digits
pub mod Ranges
pub mod Theorems
pub mod Walks
pub mod Whole
