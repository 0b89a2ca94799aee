pub mod AnyLaws
pub mod Negatives
