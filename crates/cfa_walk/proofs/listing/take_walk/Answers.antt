use Rattle.std.proofs.Common.{◌∙◌, Option, sym, subst}
use Rattle.cfa_states.specs.Kept.{KeepsLog}
use Rattle.cfa_states.specs.Logs.{Rows}
use Rattle.cfa_walk.proofs.ListingLemmas.{walk_is}
use Rattle.cfa_walk.proofs.listing.take_walk.Goals as goal

pub returns-in_ok-walk_of-in-Some-clause-walked : goal.returns-in_ok-walk_of-in-Some-clause-walked
returns-in_ok-walk_of-in-Some-clause-walked c = λ s h keeps.
    c.in_ok-walk_of-in-Some.ensures ∙ walk_is s c.in-Some.log h (subst (λ (l : Option Rows). KeepsLog s l h) (sym c.take.ensures.value ∙ c.in-Some.is) keeps)
