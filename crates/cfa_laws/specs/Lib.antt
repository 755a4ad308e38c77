pub mod Keys
pub mod Sources
pub mod Statuses
pub mod lemmas
