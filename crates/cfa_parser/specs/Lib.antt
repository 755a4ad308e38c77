pub mod Laws
pub mod Machine
pub mod Reading
pub mod Seen
pub mod Values
