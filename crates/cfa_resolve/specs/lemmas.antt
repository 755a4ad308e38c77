-- What the proofs of this crate and of those above cite besides. No contract names one.
pub mod Octal
