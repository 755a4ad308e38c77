pub mod Fields
pub mod Laws
pub mod ReadOver
pub mod Tables
pub mod RowChanges
