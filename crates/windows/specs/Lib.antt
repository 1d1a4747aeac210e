-- Which bytes of a room wait and what becomes of them; then what is proved of it.
pub mod Windows
pub mod Theorems
