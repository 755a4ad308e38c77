pub mod Decks
pub mod lemmas
