pub mod References
pub mod Named
pub mod Tables
pub mod Scopes
pub mod Shared
pub mod Expansion
pub mod Choices
pub mod lemmas
