pub mod Blanks
pub mod Codes
pub mod Sources
