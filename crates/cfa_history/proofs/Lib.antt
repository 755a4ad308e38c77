pub mod GapLemmas
pub mod HistoryRows
pub mod LawLemmas
pub mod RowLemmas
pub mod SumLemmas
pub mod TableLemmas
