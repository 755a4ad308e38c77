-- Lemmas on these definitions that the proofs of the crates above cite. No contract names one.
pub mod Cuts
pub mod Keys
pub mod Numbers
pub mod Rows
