pub mod Environments
pub mod EnvironmentCodes
