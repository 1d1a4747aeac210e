pub mod Shifts
pub mod Waiting
