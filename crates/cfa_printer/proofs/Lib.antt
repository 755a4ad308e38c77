pub mod Escapes
pub mod ExprTests
pub mod ExprTexts
pub mod ExprsAgain
pub mod Loops
pub mod PoliciesAgain
mod PrintingRows
pub mod PromiseTexts
pub mod PromisesAgain
pub mod Quoted
pub mod Readable
pub mod ReadTrees
pub mod SameExprs
pub mod Standing
pub mod ValueTexts
pub mod ValuesAgain
