-- Lemmas that the proofs of this crate and of those above cite. No contract names one.
pub mod Hosts
