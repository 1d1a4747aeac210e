pub mod Agreement
pub mod Logged
pub mod Worked
