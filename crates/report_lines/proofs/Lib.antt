pub mod Bounds
pub mod Pointed
pub mod Telling
