-- Lemmas on these definitions that the proofs of the crates above cite. No contract names one.
pub mod HexKeys
