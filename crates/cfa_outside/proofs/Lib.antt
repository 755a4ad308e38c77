pub mod Above
pub mod Parents
pub mod PathLemmas
mod Rows
