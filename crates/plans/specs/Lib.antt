-- The parts of a line; what a line says; a whole text; the machine that is fed it in chunks; the text that is written of a schedule; what is proved of them.
pub mod Parts
pub mod Entries
pub mod Drafts
pub mod Machine
pub mod Texts
pub mod Theorems
