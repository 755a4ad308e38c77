pub mod Collected
pub mod Defined
pub mod Errors
pub mod Laws
pub mod Seen
pub mod Sourced
pub mod Valid
pub mod lemmas
