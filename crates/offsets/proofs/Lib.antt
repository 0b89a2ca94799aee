pub mod Answering
pub mod Halvings
pub mod Memories
pub mod Passing
