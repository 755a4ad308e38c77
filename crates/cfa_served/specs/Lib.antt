pub mod Checked
pub mod Control
pub mod Indexed
pub mod lemmas
pub mod Parts
pub mod Served
