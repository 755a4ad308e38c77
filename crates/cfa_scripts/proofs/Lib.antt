pub mod FormLemmas
pub mod Rules
pub mod WalkLemmas
