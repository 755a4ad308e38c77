pub mod Accepted
pub mod Laws
pub mod Resolved
pub mod Runs
pub mod Trees
