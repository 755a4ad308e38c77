pub mod ArgumentLemmas
pub mod FunctionLemmas
pub mod SoFar
mod FunctionRows
