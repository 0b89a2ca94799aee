pub mod CutsMet
pub mod Integers
pub mod Ranges
