-- A run of an accepted policy leaves a world on which it settles, as a site tells it.
use Rattle.std.proofs.Common.{◌≡◌, ℕ, Bool, false, List, Option, Some, None, refl, ap, sym, subst, ◌∙◌}
use Rattle.std.specs.Prelude.{IfSome, IfOk, Result, Ok, Err}
use Rattle.cfa_base.specs.Shown.{Shown}
use Rattle.cfa_conflict.specs.declared.verdicts.Verdict.TheVariants.{Accepted}
use Rattle.cfa_conflict.specs.Analyses.{analysis_of}
use Rattle.cfa_output.specs.declared.ends.Stop.{Stop}
use Rattle.cfa_outside.specs.Sites.{Told, after, adds}
use Rattle.cfa_outside.specs.Worlds.{HasParents}
use Rattle.cfa_tree.specs.Tree.{PolicyTree}
use Rattle.cfa_states.specs.History.{History}
use Rattle.cfa_states.specs.Passes.{Course, goes, too_large}
use Rattle.cfa_states.specs.Views.{Setting}
use Rattle.cfa_agent.specs.declared.running.Tally.{Tally}
use Rattle.cfa_agent.specs.Ran.{started, IsWhole, RunsAs, IfBothTold, counts_of}
use Rattle.cfa_agent.specs.Runs.{Start, world_in, tally_in, log_in, history_of, run_of, log_of, tally_of}
use Rattle.cfa_convergence.specs.Settled.{Settles}
use Rattle.cfa_convergence.specs.Verdicts.{AcceptedRunsSettle}

-- a run that came to its end
came : (c : Course) → IsWhole c → (h : History) × (c ≡ goes h)
came (goes h) is = (h, refl)
came (too_large h) is = absurd is

module _ (policy : PolicyTree) (law : AcceptedRunsSettle policy) (s : Setting) (same : s.policy ≡ policy) (live : ℕ) (is_accepted : analysis_of s ≡ Some (Accepted live)) where
  world_left : (start : Start) (h : History) → run_of s start ≡ goes h → (before left : Told) → start.world ≡ before.world → left ≡ adds (log_of s start) before → left.world ≡ world_in start h
  unfolding log_of
  world_left start h is before left first e =
      ap (λ t. t.world) e ∙ ap (λ c. after (log_in start (history_of c)) before.world) is ∙ ap (after (log_in start h)) (sym first)

  none_failed : (start : Start) (h : History) → run_of s start ≡ goes h → (tally : Tally) → counts_of tally ≡ tally_of s start → tally.failed ≡ 0 → (tally_in h).failed ≡ 0
  unfolding tally_of
  none_failed start h is tally counted none = ap (λ c. (tally_in (history_of c)).failed) (sym is) ∙ sym (ap (λ c. c.failed) counted) ∙ none

  settles_run : (moment : ℕ) (locks : Bool) → locks ≡ false → (before after : Told) → HasParents before.world.nodes → (out out' : Shown (List ℕ)) (tally : Tally) → tally.failed ≡ 0 →
      RunsAs s (started moment locks before after) before after out out' tally → Settles s after.world
  settles_run moment locks no_locks before after valid out out' tally none ran =
      let start : Start = started moment locks before after in
      let ends = came (run_of s start) ran.is_whole in
      subst (Settles s) (sym (world_left start ends.0 ends.1 before after refl ran.site_is))
      (law s live start ends.0 same is_accepted valid no_locks ends.1 (none_failed start ends.0 ends.1 tally ran.tally_is none))

  told_run : (moment : ℕ) (locks : Bool) → locks ≡ false → (site site' : Option Told) → IfSome site (λ t. HasParents t.world.nodes) → (out out' : Shown (List ℕ)) (tally : Tally) → tally.failed ≡ 0 →
      IfSome site (λ before. IfSome site' (λ after. RunsAs s (started moment locks before after) before after out out' tally)) → IfSome site (λ before. IfSome site' (λ after. Settles s after.world))
  told_run moment locks no_locks None site' valid out out' tally none ran = tt
  told_run moment locks no_locks (Some before) None valid out out' tally none ran = tt
  told_run moment locks no_locks (Some before) (Some after) valid out out' tally none ran = settles_run moment locks no_locks before after valid out out' tally none ran

-- by what the run answers
pub run_settles : (policy : PolicyTree) → AcceptedRunsSettle policy → (s : Setting) → s.policy ≡ policy → (moment : ℕ) (locks : Bool) (site site' : Shown Told) (out out' : Shown (List ℕ)) →
    IfSome site.told (λ t. HasParents t.world.nodes) → (result : Result Tally Stop) →
    IfOk result (λ tally. IfBothTold (λ before after. RunsAs s (started moment locks before after) before after out out' tally) site site') →
    IfOk result (λ tally. locks ≡ false → tally.failed ≡ 0 → (live : ℕ) → analysis_of s ≡ Some (Accepted live) → IfBothTold (λ before after. Settles s after.world) site site')
run_settles policy law s same moment locks site site' out out' valid (Ok tally) ran = λ no_locks none live is_accepted.
    told_run policy law s same live is_accepted moment locks no_locks site.told site'.told valid out out' tally none ran
run_settles policy law s same moment locks site site' out out' valid (Err stop) ran = tt
