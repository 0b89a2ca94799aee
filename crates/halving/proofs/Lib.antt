pub mod First
pub mod Lowers
pub mod Places
