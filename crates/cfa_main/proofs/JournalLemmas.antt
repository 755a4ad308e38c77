-- What a call that isn't stopped adds to the log is bracketed: what its run adds, or nothing.
use Rattle.std.proofs.Common.{◌≡◌, ℕ, Bool, List, [], ◌∷◌, ◌++◌, drop, length, Option, Some, None, IfSome, refl, sym, subst, inl, inr}
use Rattle.std.specs.Prelude.{Result, Ok, Err}
use Rattle.cfa_base.specs.Shown.{Shown, Untouched}
use Rattle.cfa_outside.specs.Inputs.{Library}
use Rattle.cfa_outside.specs.declared.sites.Entry.{Entry}
use Rattle.cfa_outside.specs.declared.worlds.World.{World}
use Rattle.cfa_outside.specs.Sites.{Told}
use Rattle.cfa_output.specs.declared.ends.Stop.{Stop}
use Rattle.cfa_output.specs.declared.ends.Failure.TheVariants.{Refused, Stopped}
use Rattle.cfa_states.specs.Views.{Setting}
use Rattle.cfa_agent.specs.Bracketed.{AllBracketed}
use Rattle.cfa_agent.specs.Ran.{IfBothTold, added}
use Rattle.cfa_main.specs.declared.ends.End.{End}
use Rattle.cfa_main.specs.declared.work.Work.TheVariants.{Run, Judge, Search, Show}
use Rattle.cfa_main.specs.Ends.{IsEnd}
use Rattle.cfa_main.specs.Stages.{PolicyRan, not_made, made, Called, not_prepared, ended, stopped_at_work}
use Rattle.cfa_main.proofs.CallLemmas.{no_end, stop_is}

abbrev IsTold : (site site' : Shown Told) → Type 0
IsTold site site' = IfBothTold (λ before after. AllBracketed before.world (added before after)) site site'

drop_all : (log : List Entry) → drop (length log) log ≡ []
drop_all [] = refl
drop_all (entry ∷ log) = drop_all log

nothing_told : (world : World) → AllBracketed world []
nothing_told world [] rest is = tt
nothing_told world (entry ∷ front) rest is = absurd cc

same_told : (o : Option Told) → IfSome o (λ before. IfSome o (λ after. AllBracketed before.world (added before after)))
same_told None = tt
same_told (Some t) = subst (λ (log : List Entry). AllBracketed t.world log) (sym (drop_all t.log)) (nothing_told t.world)

untouched_told : (site site' : Shown Told) → Untouched site site' → IsTold site site'
untouched_told site site' same = subst (λ (x : Shown Told). IsTold site x) (sym same) (same_told site.told)

run_told : (setting : Setting) (moment : ℕ) (locks strict : Bool) (site site' : Shown Told) (out out' : Shown (List ℕ)) (pats pats' : Shown (List (List ℕ))) (end : End) →
    PolicyRan setting moment locks strict site site' out out' pats pats' (Ok end) → IsTold site site'
run_told setting moment locks strict site site' out out' pats pats' end (made may p) = p.bracketed
run_told setting moment locks strict site site' out out' pats pats' end (not_made obeyed p) = untouched_told site site' p.site_is

pub journaled : (words : List (List ℕ)) (moment : ℕ) (inputs inputs' : Shown Library) (site site' : Shown Told) (out out' : Shown (List ℕ)) (pats pats' : Shown (List (List ℕ))) (status : ℕ) →
    Called words moment inputs inputs' site site' out out' pats pats' status → IsEnd status → IsTold site site'
journaled words moment inputs inputs' site site' out out' pats pats' status (not_prepared p un puts) end = untouched_told site site' un
journaled words moment inputs inputs' site site' out out' pats pats' status (ended {work = Run order} by p performed is) end =
    run_told _ moment order.locks order.strict site site' out out' pats pats' by performed
journaled words moment inputs inputs' site site' out out' pats pats' status (ended {work = Judge policy} by p performed is) end = untouched_told site site' performed.site_is
journaled words moment inputs inputs' site site' out out' pats pats' status (ended {work = Search policy} by p performed is) end = untouched_told site site' performed.site_is
journaled words moment inputs inputs' site site' out out' pats pats' status (ended {work = Show text} by p performed is) end = untouched_told site site' performed.site_is
journaled words moment inputs inputs' site site' out out' pats pats' status (stopped_at_work stop mid p performed puts) end = absurd (no_end status (stop_is stop mid out' status puts) end)
