pub mod DeckSteps
pub mod FieldSteps
pub mod InsertSteps
pub mod PatternSteps
pub mod TextSteps
pub mod TextsTell
