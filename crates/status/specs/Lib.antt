-- The status of a tool's run; the arguments that all tools read alike; the front of a call.
pub mod Statuses
pub mod Arguments
pub mod Fronts
