pub mod Checks
pub mod Headings
pub mod Laws
pub mod Lines
pub mod Readings
pub mod Sources
pub mod Steps
