pub mod Naming
pub mod Found
pub mod Parts
pub mod Statements
