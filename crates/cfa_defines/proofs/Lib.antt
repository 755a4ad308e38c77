pub mod BuildLemmas
pub mod CallLemmas
pub mod ItemLemmas
pub mod MaybeLemmas
pub mod PlainLemmas
pub mod ReadLemmas
pub mod Rules
pub mod SaidLemmas
mod DefiningRows
