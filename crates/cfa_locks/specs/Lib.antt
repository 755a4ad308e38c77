pub mod Locks
pub mod lemmas
