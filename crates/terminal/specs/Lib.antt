-- The state, what its rules ask of commands, messages and settling, the rules, then whole calls, cards and what is proved.
pub mod States
pub mod Commands
pub mod Messages
pub mod Settling
pub mod Effects
pub mod Rules
pub mod Works
pub mod Events
pub mod Cards
pub mod Theorems
