pub mod Records
pub mod Stored
pub mod Positions
pub mod Journals
pub mod Audits
