pub mod Laws
pub mod OfTheCode
pub mod Printing
pub mod SameExpr
