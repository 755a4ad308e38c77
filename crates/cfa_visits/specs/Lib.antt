pub mod Bundles
pub mod Calling
pub mod Clear
pub mod Counting
pub mod Endings
pub mod Remembering
pub mod lemmas
