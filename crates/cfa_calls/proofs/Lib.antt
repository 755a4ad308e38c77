pub mod FirstLemmas
pub mod GraphLemmas
pub mod LevelLemmas
pub mod NumberLemmas
pub mod SearchLemmas
