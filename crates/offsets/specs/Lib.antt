pub mod Entry
pub mod Searching
pub mod Truth
