-- The log of a file, in the words of 02 a; then the machine that makes it, and what is proved of them.
pub mod Entries
pub mod Logs
pub mod Machine
pub mod Theorems
