pub mod Limits
pub mod Matrices
pub mod Theorems
