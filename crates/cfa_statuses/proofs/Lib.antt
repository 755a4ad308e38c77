pub mod ClassRows
pub mod Turns
