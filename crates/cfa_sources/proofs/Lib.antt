pub mod CheckLemmas
pub mod FileLemmas
pub mod InputLemmas
pub mod Outcomes
pub mod PolicyLemmas
pub mod TextLemmas
