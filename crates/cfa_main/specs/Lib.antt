pub mod Audits
pub mod Calls
pub mod Demos
pub mod Done
pub mod Ends
pub mod Histories
pub mod Searches
pub mod Stages
