pub mod Counts
pub mod Policies
