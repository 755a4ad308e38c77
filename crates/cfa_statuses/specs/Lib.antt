pub mod Raised
pub mod Status
pub mod lemmas
