pub mod ByCuts
pub mod Points
