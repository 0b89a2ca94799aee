pub mod Sums
pub mod SumsLemmas
