pub mod Lending
pub mod Meanings
pub mod Promised
pub mod Views
pub mod Works
