mod ListedLemmas
mod PartLemmas
