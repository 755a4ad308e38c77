pub mod Functions
pub mod Calls
pub mod Builds
pub mod Given
pub mod lemmas
