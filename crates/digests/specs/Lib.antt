pub mod AnswerLists
pub mod Digests
