pub mod ClassFrontLemmas
pub mod ClassTextLaws
pub mod ClassTextRows
pub mod ClassTextSteps
pub mod GuardEnds
pub mod GuardSteps
pub mod Joined
pub mod RepeatLemmas
