pub mod Adding
pub mod Hex
pub mod HomeBytes
pub mod Lines
pub mod ReadBack
pub mod Written
