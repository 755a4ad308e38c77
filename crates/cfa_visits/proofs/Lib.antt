mod CallLemmas
mod CountLemmas
mod EndingLemmas
mod FactLemmas
