pub mod AnyRules
pub mod Problems
pub mod Reading
