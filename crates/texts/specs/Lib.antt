-- The texts of the tools' lines, in the words of docs/LINES.md; which entries are shown; then what is proved of them.
pub mod Entries
pub mod Logs
pub mod Saves
pub mod Schedules
pub mod Theorems
