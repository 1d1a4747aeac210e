-- Calls and pasts, the words in which demand 3 is said, its statements, and histories worked out.
pub mod Calls
pub mod Courses
pub mod States
pub mod Kinds
pub mod Witnesses
pub mod Faults
pub mod Exchanges
pub mod Demands
