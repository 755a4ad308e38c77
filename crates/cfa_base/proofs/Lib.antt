pub mod LexingRows
pub mod PatternLemmas
pub mod IndexLemmas
pub mod EscapeLemmas
pub mod Ranges
pub mod Leaves
pub mod KeyLemmas
