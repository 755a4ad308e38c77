-- Lemmas on these definitions that the proofs of this crate and of those above cite. No contract names one.
pub mod Built
pub mod Courses
pub mod Keeping
pub mod Later
pub mod Locals
pub mod Names
pub mod PlainNames
pub mod Scopes
pub mod Spared
pub mod Statuses
