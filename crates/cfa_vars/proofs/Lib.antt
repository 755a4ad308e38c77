pub mod NamedLemmas
pub mod SharedLemmas
pub mod NameLemmas
pub mod ReferenceLemmas
pub mod ExpansionLemmas
pub mod ChoiceLemmas
mod ExpansionRows
mod ChoiceRows
pub mod ListReferenceLemmas
