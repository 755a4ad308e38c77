-- What agents that take turns come to, turn by turn.
use Rattle.std.proofs.Common.{◌≡◌, ◌∙◌, ◌≢◌, ◌⊎◌, inl, inr, ℕ, suc, Bool, true, false, List, [], ◌∷◌, ◌++◌, refl, sym, ap, subst, eq-eqb}
use Rattle.std.specs.Prelude.{◌==◌}
use Rattle.std.specs.List.{AllByRecursion as Each}
use Rattle.std.proofs.lemmas.Bool.Decides.{eqb_tells}
use Rattle.cfa_outside.specs.declared.worlds.World.{World}
use Rattle.cfa_outside.specs.declared.sites.Entry.{Entry}
use Rattle.cfa_outside.specs.Sites.{after}
use Rattle.cfa_resolve.specs.declared.instances.Instance.{Instance}
use Rattle.cfa_states.specs.History.{History}
use Rattle.cfa_states.specs.Tellers.{Teller}
use Rattle.cfa_states.specs.Views.{Setting}
use Rattle.cfa_frames.specs.Moves.{Next}
use Rattle.cfa_frames.specs.Steps.{after_steps, begun, then_step}
use Rattle.cfa_agent.specs.Agents.{history_at, next_by}
use Rattle.cfa_agent.specs.Runs.{Start}
use Rattle.cfa_agent.specs.Stepping.{recorded_in, stepper}
use Rattle.cfa_agent.specs.lemmas.Hosts.{after_both}
use Rattle.cfa_convergence.specs.Contained.{actuations}
use Rattle.cfa_convergence.specs.Lasting.{Trace, Becomes, unchanged, actuates, by_agent}
use Rattle.cfa_drill.specs.Ends.{HasEnded, counts_at, is_number}
use Rattle.cfa_drill.specs.Interleaving.{Together, TurnMark, first_of_all, start_in, step_entries, stood_if, turned, turned_all, interleave}
use Rattle.cfa_drill.specs.Traces.{IsTraced, StepsAreInterleaved}
use Rattle.cfa_drill.proofs.ActedLemmas.{HasActed}
use Rattle.cfa_drill.proofs.StepLemmas.{StepIs, quietly, acting, StepLaws, turn_is, turn_none}
use Rattle.cfa_drill.proofs.TellerLemmas.{Fair, RunLaws, fair_push, fair_stepper, has_run, next_is, step_behind}

abbrev NoneFailed : ℕ → Together → Type 0
NoneFailed agents all = (number : ℕ) → is_number agents number ≡ true → (counts_at (all.stands number)).failed ≡ 0

-- how it stands between two turns
record Stands (s : Setting) (agents : ℕ) (world : World) (all : Together) : Type 0 where
  trace : Trace
  numbered : Each (λ (step : ℕ × Instance). is_number agents step.0 ≡ true) trace
  own : (number : ℕ) → by_agent number trace ≡ actuations (history_at (all.stands number))
  becomes : NoneFailed agents all → Becomes world trace (after all.log world)
  tellers : ℕ → List Teller
  fair : (number : ℕ) → Each Fair (tellers number)
  steps : (number : ℕ) → all.stands number ≡ after_steps s (tellers number) (begun s)

same_number : (a b : ℕ) → (a == b) ≡ true → a ≡ b
same_number a b e = go (eqb_tells a b)
  where
    go : (((a == b) ≡ true) × (a ≡ b)) ⊎ (((a == b) ≡ false) × (a ≢ b)) → a ≡ b
    go (inl same) = same.1
    go (inr differ) = let other = differ.0 in absurd (cc)

stood_itself : (number : ℕ) (now before : Next) → stood_if (number == number) now before ≡ now
stood_itself number now before = ap (λ b. stood_if b now before) (eq-eqb number number refl)

abbrev push_if : Bool → Teller → List Teller → List Teller
push_if true t tellers = tellers ++ t ∷ []
push_if false t tellers = tellers

abbrev acted_if : Bool → Instance → List Instance → List Instance
acted_if is_its i others = elim is_its [ true ↦ i ∷ others | false ↦ others ]

module _ (laws : StepLaws) (s : Setting) (moment agents : ℕ) (marks : List TurnMark) (world : World) (number : ℕ) (all : Together) where
  abbrev from : History
  from = history_at (all.stands number)

  abbrev start : Start
  start = start_in s moment marks world (suc all.turns) all.log from

  abbrev now : Next
  now = next_by s start (all.stands number)

  abbrev t : Teller
  t = stepper start from (recorded_in from)

  abbrev next : Together
  next = turned s moment marks world number all

  push_fair : (b : Bool) (tellers : List Teller) → Each Fair tellers → Each Fair (push_if b t tellers)
  push_fair true tellers fair = fair_push tellers t fair (fair_stepper start refl from)
  push_fair false tellers fair = fair

  steps_then : (tellers : ℕ → List Teller) → ((n : ℕ) → all.stands n ≡ after_steps s (tellers n) (begun s)) → (n : ℕ) → (b : Bool) → (number == n) ≡ b →
      stood_if b now (all.stands n) ≡ after_steps s (push_if b t (tellers n)) (begun s)
  steps_then tellers steps n true e =
      next_is s start (all.stands number) ∙ ap (then_step s t) (ap all.stands (same_number number n e) ∙ steps n) ∙ sym (step_behind s (tellers n) t (begun s))
  steps_then tellers steps n false e = steps n

  -- none of them has failed before
  none_then : NoneFailed agents next → (n : ℕ) → is_number agents n ≡ true → (counts_at (all.stands n)).failed ≡ 0
  none_then none n is = go (number == n) refl (none n is)
    where
      go : (b : Bool) → (number == n) ≡ b → (counts_at (stood_if b now (all.stands n))).failed ≡ 0 → (counts_at (all.stands n)).failed ≡ 0
      go true e f = subst (λ (m : ℕ). (counts_at (all.stands m)).failed ≡ 0) (same_number number n e) (turn_none laws s start (all.stands number) f)
      go false e f = f

  none_now : NoneFailed agents next → is_number agents number ≡ true → (counts_at now).failed ≡ 0
  none_now none is = subst (λ (x : Next). (counts_at x).failed ≡ 0) (stood_itself number now (all.stands number)) (none number is)

  own_quiet : actuations (history_at now) ≡ actuations from → (trace : Trace) → ((n : ℕ) → by_agent n trace ≡ actuations (history_at (all.stands n))) →
      (n : ℕ) (b : Bool) → (number == n) ≡ b → by_agent n trace ≡ actuations (history_at (stood_if b now (all.stands n)))
  own_quiet same trace own n true e = own n ∙ ap (λ (m : ℕ). actuations (history_at (all.stands m))) (sym (same_number number n e)) ∙ sym same
  own_quiet same trace own n false e = own n

  own_acting : (i : Instance) → actuations (history_at now) ≡ i ∷ actuations from → (trace : Trace) → ((n : ℕ) → by_agent n trace ≡ actuations (history_at (all.stands n))) →
      (n : ℕ) (b : Bool) → (number == n) ≡ b → acted_if b i (by_agent n trace) ≡ actuations (history_at (stood_if b now (all.stands n)))
  own_acting i more trace own n true e =
      ap (λ others. i ∷ others) (own n ∙ ap (λ (m : ℕ). actuations (history_at (all.stands m))) (sym (same_number number n e))) ∙ sym more
  own_acting i more trace own n false e = own n

  turn_stands : is_number agents number ≡ true → Stands s agents world all → Stands s agents world next
  turn_stands is so_far = go (turn_is laws s start refl (all.stands number))
    where
      pushed : ℕ → List Teller
      pushed n = push_if (number == n) t (so_far.tellers n)

      -- the world behind the step
      left : World
      left = after (step_entries start from (history_at now)) (after all.log world)

      left_is : left ≡ after (all.log ++ step_entries start from (history_at now)) world
      left_is = sym (after_both all.log (step_entries start from (history_at now)) world)

      go : StepIs start from (history_at now) → Stands s agents world next
      go (quietly same none) = record {
        trace = so_far.trace;
        numbered = so_far.numbered;
        own = λ n. own_quiet same so_far.trace so_far.own n (number == n) refl;
        becomes = λ fine. subst (Becomes world so_far.trace) (ap (λ entries. after entries (after all.log world)) (sym none) ∙ left_is) (so_far.becomes (none_then fine));
        tellers = pushed;
        fair = λ n. push_fair (number == n) (so_far.tellers n) (so_far.fair n);
        steps = λ n. steps_then so_far.tellers so_far.steps n (number == n) refl;
      }
      go (acting i more acted) = record {
        trace = (number, i) ∷ so_far.trace;
        numbered = (is, so_far.numbered);
        own = λ n. own_acting i more so_far.trace so_far.own n (number == n) refl;
        becomes = λ fine. let done = acted (none_now fine is) in subst (Becomes world ((number, i) ∷ so_far.trace)) left_is (actuates (so_far.becomes (none_then fine)) done.0 done.1);
        tellers = pushed;
        fair = λ n. push_fair (number == n) (so_far.tellers n) (so_far.fair n);
        steps = λ n. steps_then so_far.tellers so_far.steps n (number == n) refl;
      }

module _ (laws : StepLaws) (s : Setting) (moment agents : ℕ) (marks : List TurnMark) (world : World) where
  first_stands : Stands s agents world (first_of_all s)
  first_stands = record {
    trace = [];
    numbered = tt;
    own = λ n. refl;
    becomes = λ none. unchanged;
    tellers = λ n. [];
    fair = λ n. tt;
    steps = λ n. refl;
  }

  all_stand : (numbers : List ℕ) → Each (λ (number : ℕ). is_number agents number ≡ true) numbers → (all : Together) → Stands s agents world all →
      Stands s agents world (turned_all s moment marks world numbers all)
  all_stand [] are all so_far = so_far
  all_stand (number ∷ numbers) are all so_far =
      all_stand numbers are.1 (turned s moment marks world number all) (turn_stands laws s moment agents marks world number all are.0 so_far)

traced : RunLaws → (s : Setting) (agents : ℕ) (world : World) (all : Together) → Stands s agents world all → IsTraced s agents world all
traced laws s agents world all so_far = record {
  trace = so_far.trace;
  numbered = so_far.numbered;
  own = so_far.own;
  becomes = so_far.becomes;
  runs = λ number ended. has_run laws s (so_far.tellers number) (all.stands number) (so_far.fair number) (so_far.steps number) ended;
}

pub interleaved : StepLaws → RunLaws → StepsAreInterleaved
unfolding interleave
interleaved steps runs s moment agents marks world numbers are =
    traced runs s agents world (turned_all s moment marks world numbers (first_of_all s)) (all_stand steps s moment agents marks world numbers are (first_of_all s) (first_stands steps s moment agents marks world))
