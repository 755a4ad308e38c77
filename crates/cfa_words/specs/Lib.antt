pub mod Demos
pub mod OfTheCode
pub mod Words
