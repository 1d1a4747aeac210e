-- Messages and their loads; then frames, the check and the planner's promise; then what is proved of them.
pub mod Messages
pub mod Frames
pub mod Theorems
