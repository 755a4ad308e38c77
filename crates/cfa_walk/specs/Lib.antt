pub mod Settings
pub mod Turns
pub mod Ended
pub mod Walked
pub mod Tellings
pub mod Listed
