pub mod Budgets
pub mod Meanings
pub mod Rounds
