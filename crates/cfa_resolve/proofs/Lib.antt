pub mod FileLemmas
pub mod KeyLemmas
pub mod MinuteLemmas
pub mod ResolutionLemmas
pub mod NamedLemmas
pub mod FewLemmas
pub mod Rules
pub mod ValueLemmas
mod ResolutionRows
mod EditRows
