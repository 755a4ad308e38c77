pub mod FileActs
pub mod Instances
pub mod KeyTexts
pub mod Resolution
pub mod Viewed
pub mod Laws
pub mod OfTheCode
pub mod lemmas
