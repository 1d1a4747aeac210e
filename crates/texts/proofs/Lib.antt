pub mod Choices
pub mod Lines
pub mod Fronts
pub mod Signs
pub mod Fittings
pub mod Tellings
pub mod Validity
pub mod Examples
