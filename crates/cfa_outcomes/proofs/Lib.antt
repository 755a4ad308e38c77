pub mod EnvironmentLemmas
pub mod EnvironmentRows
pub mod HashedTexts
