pub mod Cases
pub mod Fronts
pub mod Loops
pub mod Asking
pub mod Tallies
pub mod Sessions
pub mod Cleans
pub mod Listings
