pub mod ListingLemmas
pub mod TurnLemmas
pub mod StepLemmas
