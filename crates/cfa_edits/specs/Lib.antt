pub mod Edits
pub mod Scripts
pub mod Answers
pub mod Steps
pub mod Laws
pub mod lemmas
