pub mod Splits
pub mod Sayings
pub mod Feeds
pub mod Wholes
pub mod Backs
pub mod Returns
