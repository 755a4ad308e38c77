mod BlankLemmas
mod SourceLemmas
