pub mod QuietLemmas
pub mod ActedLemmas
pub mod StepLemmas
pub mod TellerLemmas
pub mod TraceLemmas
pub mod SettleLemmas
pub mod MarkLemmas
