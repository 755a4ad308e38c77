pub mod Cycles
pub mod Numbering
pub mod Reaching
