-- What becomes of each byte, in the words of 02 c; then the machine and what is proved of it.
pub mod Pieces
pub mod Machine
pub mod Theorems
