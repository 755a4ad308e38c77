pub mod FieldLemmas
pub mod ModeLemmas
pub mod RowLemmas
pub mod TableLemmas
pub mod KeptRowLemmas
pub mod ReadOverLemmas
pub mod RowChangeLemmas
