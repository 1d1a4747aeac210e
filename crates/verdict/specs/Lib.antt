-- The plan and what it expects back, the numbers of verdicts, the facts, then whole verdicts and what is proved of them.
pub mod Plans
pub mod Numbers
pub mod Facts
pub mod Verdicts
pub mod Theorems
