pub mod LookupLemmas
pub mod NotedLemmas
pub mod ScopeLemmas
pub mod ValueLemmas
