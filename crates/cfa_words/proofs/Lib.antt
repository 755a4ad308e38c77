pub mod DemoNumbers
mod Demos
mod Examples
pub mod Rows
pub mod Walking
pub mod Law
pub mod Looks
pub mod Reading
pub mod Lines
