-- Bounds of loads, the data words of mode commands; lists of messages and frames, as the loops walk them; what a proposal needs; then what the check says, what a frame is loaded with, in which frames a message comes, and schedules with one message more.
pub mod Bounds
pub mod Modes
pub mod Walks
pub mod Chains
pub mod Fills
pub mod Firsts
pub mod Outcomes
pub mod Accepts
pub mod Sums
pub mod Remainders
pub mod Additions
