pub mod Plain
pub mod Clashes
pub mod Quiet
pub mod Decisions
pub mod Steps
