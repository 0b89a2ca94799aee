pub mod First
pub mod Halvings
