-- What waits in a sink after each call, and the texts of words and numbers; a text in its place; the number of a text; the parts of a line; names; then what is proved of them.
pub mod Sinks
pub mod Spells
pub mod Numbers
pub mod Parts
pub mod Names
pub mod Theorems
