pub mod CountLemmas
pub mod PolicyLemmas
pub mod PolicyRows
