pub mod Forms
pub mod Functions
pub mod Kinds
pub mod lemmas
