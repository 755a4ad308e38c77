pub mod Frames
pub mod Moves
pub mod Weights
pub mod Growing
pub mod Standing
pub mod Hearing
pub mod Steps
pub mod Depths
