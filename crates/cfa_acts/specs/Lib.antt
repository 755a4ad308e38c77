pub mod Acts
pub mod Decided
pub mod Disturbs
pub mod Laws
pub mod Reasons
pub mod Same
pub mod Seeing
pub mod Settling
