pub mod Decisions
pub mod Effects
pub mod Lasting
pub mod Needs
pub mod Posts
pub mod Rows
pub mod Seen
pub mod Settled
