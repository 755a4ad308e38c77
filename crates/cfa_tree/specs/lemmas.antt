-- Lemmas on these definitions that the proofs of the crates above cite. No contract names one.
pub mod GuardPlaces
pub mod GuardRest
pub mod GuardRuns
pub mod Levels
pub mod Lists
pub mod PolicyA
pub mod Rows
pub mod Written
