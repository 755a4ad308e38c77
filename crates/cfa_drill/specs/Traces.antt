-- What comes of agents that take turns. Their actuations make one trace, the newest first, in which those of each agent are the ones of its
-- history. Where none failed, they make of the first world what stands behind the log of all. An agent that has ended has made a run of the
-- policy, by a teller who skips no instance and tells one outcome of each: what its steps were told.
use Rattle.std.specs.Prelude.{◌≡◌, ℕ, Bool, true, false, List, [], ◌∷◌}
use Rattle.std.specs.List.{AllByRecursion as Each}
use Rattle.cfa_outside.specs.declared.worlds.World.{World}
use Rattle.cfa_outside.specs.Sites.{after}
use Rattle.cfa_outcomes.specs.declared.outcomes.Outcome.{Outcome}
use Rattle.cfa_outcomes.specs.declared.outcomes.Outcome.TheVariants.{Kept}
use Rattle.cfa_resolve.specs.declared.instances.Instance.{Instance}
use Rattle.cfa_resolve.specs.declared.instances.Work.TheVariants.{Report}
use Rattle.cfa_states.specs.History.{History}
use Rattle.cfa_states.specs.Passes.{goes, run}
use Rattle.cfa_states.specs.Views.{Setting}
use Rattle.cfa_agent.specs.Agents.{history_at}
use Rattle.cfa_convergence.specs.Contained.{actuations}
use Rattle.cfa_convergence.specs.Lasting.{Trace, Becomes, by_agent}
use Rattle.cfa_convergence.specs.Told.{Telling, teller_of}
use Rattle.cfa_drill.specs.Ends.{HasEnded, counts_at, is_number}
use Rattle.cfa_drill.specs.Interleaving.{Together, TurnMark, interleave}

-- one outcome of each instance, and that of a report is kept
pub record TellsOne (tells : Telling) : Type 0 where
  pub one : (h : History) (i : Instance) → (outcome : Outcome) × (tells h i ≡ outcome ∷ [])
  pub reports : (h : History) (i : Instance) (content : List ℕ) → i.work ≡ Report content → tells h i ≡ Kept ∷ []

-- what its steps were told, of an agent that has ended
abbrev pub HasRun : Setting → (h : History) → Type 0
HasRun s h = (tells : Telling) × (TellsOne tells × (run s (teller_of tells) ≡ goes h))

pub record IsTraced (s : Setting) (agents : ℕ) (world : World) (all : Together) : Type 0 where
  pub trace : Trace
  pub numbered : Each (λ (step : ℕ × Instance). is_number agents step.0 ≡ true) trace
  pub own : (number : ℕ) → by_agent number trace ≡ actuations (history_at (all.stands number))
  pub becomes : ((number : ℕ) → is_number agents number ≡ true → (counts_at (all.stands number)).failed ≡ 0) → Becomes world trace (after all.log world)
  pub runs : (number : ℕ) → HasEnded (all.stands number) → HasRun s (history_at (all.stands number))

abbrev pub StepsAreInterleaved : Type 0
StepsAreInterleaved =
    (s : Setting) (moment agents : ℕ) (marks : List TurnMark) (world : World) (numbers : List ℕ) →
    Each (λ (number : ℕ). is_number agents number ≡ true) numbers → IsTraced s agents world (interleave s moment marks world numbers)
