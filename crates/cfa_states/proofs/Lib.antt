pub mod ActivationLemmas
pub mod BindingLemmas
pub mod ChangingLemmas
pub mod DefiningLemmas
pub mod FirstPlaces
pub mod KeptLemmas
pub mod LogLemmas
pub mod NumberedLemmas
pub mod PlaceLemmas
pub mod RowLemmas
mod Rows
pub mod SharedLemmas
pub mod WaitLemmas
