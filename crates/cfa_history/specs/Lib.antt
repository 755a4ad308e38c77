pub mod Ids
pub mod Instances
pub mod Rows
pub mod Tables
pub mod Gaps
pub mod Histories
pub mod Laws
