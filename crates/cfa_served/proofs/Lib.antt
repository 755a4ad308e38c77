pub mod IdLemmas
pub mod IndexLemmas
pub mod ListedLemmas
pub mod NumberLemmas
