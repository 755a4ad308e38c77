pub mod Analyses
pub mod Conflicts
pub mod Targets
pub mod lemmas
