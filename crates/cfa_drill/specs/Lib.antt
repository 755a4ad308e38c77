pub mod Ends
pub mod Interleaving
pub mod Marking
pub mod Settling
pub mod Traces
