-- Lemmas on these definitions that the proofs of this crate and of those above cite. No contract names one.
pub mod Calls
pub mod Remembered
pub mod Served
pub mod Told
pub mod Types
