pub mod AuditLemmas
pub mod AuditRows
pub mod FieldLemmas
pub mod JournalLemmas
pub mod LineLemmas
pub mod PositionRows
pub mod ReadSoFar
pub mod RecordLemmas
