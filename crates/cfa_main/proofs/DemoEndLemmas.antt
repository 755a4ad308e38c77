-- How a demo in time can end: it is neither refused nor in conflict, makes no more visits than it may, and is stopped for a cause.
use Rattle.std.proofs.Common.{◌≡◌, ◌<◌, ◌≤◌, inl, inr, ℕ, Bool, true, false, nat_le, nat_lt, if◌then◌else◌, List, [], ◌∷◌, Option, Some, None, IfSome, Result, Ok, Err, refl, sym, subst, arith}
use Rattle.std.proofs.lemmas.Bool.{and_parts, leb-true}
use Rattle.std.specs.Prelude.{◌||◌, codes, is_some, option_and_then}
use Rattle.std.specs.Str.{bytes_eq}
use Rattle.std.specs.Str.Parse.{digits_value}
use Rattle.cfa_base.specs.Causes.{Rose}
use Rattle.cfa_base.specs.declared.limits.TheConstants.{LAST_MOMENT}
use Rattle.cfa_base.specs.Decimals.{is_decimal}
use Rattle.cfa_base.specs.Index.{Text}
use Rattle.cfa_base.specs.Shown.{Shown}
use Rattle.cfa_outside.specs.Sites.{Told}
use Rattle.cfa_output.specs.declared.ends.Object.TheVariants.{Inputs, Site, Sink}
use Rattle.cfa_output.specs.declared.ends.Stop.{Stop}
use Rattle.cfa_output.specs.declared.ends.Stop.TheVariants.{Outside, Memory, Visits, Pattern}
use Rattle.cfa_output.specs.declared.ends.Failure.{Failure}
use Rattle.cfa_output.specs.declared.ends.Failure.TheVariants.{Refused, Stopped}
use Rattle.cfa_output.specs.Lines.{stop_line}
use Rattle.cfa_output.specs.Puts.{PutsShort}
use Rattle.cfa_words.specs.Words.{Given, given}
use Rattle.cfa_words.specs.Demos.{is_demo_number, demo_number, demo_with, demo_given, demo_asked}
use Rattle.cfa_states.specs.Levels.{IsTooLarge}
use Rattle.cfa_states.specs.Views.{Setting}
use Rattle.cfa_conflict.specs.declared.verdicts.Verdict.{Verdict}
use Rattle.cfa_conflict.specs.declared.verdicts.Verdict.TheVariants.{Accepted, Conflict as InConflictBy}
use Rattle.cfa_conflict.specs.Analyses.{analysis_of}
use Rattle.cfa_agent.specs.Runs.{Start, real, run_of}
use Rattle.cfa_demo_laws.specs.Accepted.{DemoIsAccepted}
use Rattle.cfa_demo_laws.specs.Laws.{DemoIsOneTree, DemoIsNeverRefused}
use Rattle.cfa_demo_laws.specs.Runs.{DemoRunsFit}
use Rattle.cfa_demo_laws.specs.Trees.{demo_tree}
use Rattle.cfa_main.specs.declared.demonstrating.CountedRun.{CountedRun}
use Rattle.cfa_main.specs.declared.ends.End.{End}
use Rattle.cfa_main.specs.declared.ends.End.TheVariants.{Ended, PromiseFailed, InConflict}
use Rattle.cfa_main.specs.Done.{status_of}
use Rattle.cfa_main.specs.Demos as demos
use Rattle.cfa_main.specs.Demos.{FailsDemo, StopsOnce, IsTold, SecondIsTold, RunsAgain, FirstIsTold, RunsTwice, IsShown, IsPerformed, Demonstrates, EndsDemo}
use Rattle.cfa_main.specs.Stages.{StopsPutting, PutsStop, PutsFailure, status_of_stop}
use Rattle.cfa_main.proofs.CountLemmas.{Stands, CountsPuts, still, demo_counts}
use Rattle.cfa_main.proofs.Told.{fault_along, fault_before}

-- what is known of demos
pub record DemoLaws : Type 0 where
  pub one_tree : DemoIsOneTree
  pub never_refused : DemoIsNeverRefused
  pub fits : DemoRunsFit
  pub accepted : DemoIsAccepted

-- ---- the number

abbrev Few : ℕ → Type 0
Few n = n ≤ 10000

few_if : (b : Bool) (n : ℕ) → (b ≡ true → Few n) → IfSome (if b then Some n else None) Few
few_if true n few = few refl
few_if false n few = tt

few_number : (text : Text) → IfSome (demo_number text) Few
few_number text = few_if (is_demo_number text) (digits_value 10 text) (λ is.
    let within = and_parts (nat_le 1 (digits_value 10 text)) (nat_le (digits_value 10 text) 10000) (and_parts (is_decimal text) _ is).1 in
    leb-true (digits_value 10 text) 10000 within.1)

few_unless : (b : Bool) (o : Option ℕ) → IfSome o Few → IfSome (if b then None else o) Few
few_unless true o few = tt
few_unless false o few = few

few_where : (b : Bool) (o : Option ℕ) → IfSome o Few → IfSome (if b then o else None) Few
few_where true o few = few
few_where false o few = tt

few_given : (words : List Text) (g : Given) → IfSome (demo_given words g) Few
few_given [] g = tt
few_given (command ∷ []) g = tt
few_given (command ∷ argument ∷ []) g = few_where (bytes_eq command (codes "demo")) (demo_with argument g)
    (few_unless (g.no_lock || (g.strict || is_some g.classes)) (demo_number argument) (few_number argument))
few_given (command ∷ argument ∷ more ∷ words) g = tt

few_by : (o : Option Given) → IfSome (option_and_then (λ (g : Given). demo_given g.words g) o) Few
few_by None = tt
few_by (Some g) = few_given g.words g

few_asked : (words : List Text) (number : ℕ) → demo_asked words ≡ Some number → Few number
few_asked words number is = subst (λ (o : Option ℕ). IfSome o Few) is (few_by (given words))

-- ---- how its work ends

both_told : (Holds : Told → Told → Type 0) (o o' : Option Told) (t t' : Told) → o ≡ Some t → o' ≡ Some t' → IfSome o (λ b. IfSome o' (Holds b)) → Holds t t'
both_told Holds o o' t t' is is' h = subst (λ (x : Option Told). IfSome x (Holds t)) is' (subst (λ (x : Option Told). IfSome x (λ b. IfSome o' (Holds b))) is h)

abbrev IsAcceptance : Option Verdict → Type 0
IsAcceptance None = ⊥
IsAcceptance (Some (Accepted live)) = Unit {0}
IsAcceptance (Some (InConflictBy c)) = ⊥

abbrev IsEndOfDemo : End → Type 0
IsEndOfDemo Ended = Unit {0}
IsEndOfDemo PromiseFailed = Unit {0}
IsEndOfDemo InConflict = ⊥

end_of : (b : Bool) → IsEndOfDemo (if b then PromiseFailed else Ended)
end_of true = tt
end_of false = tt

-- a call on a site has failed whose count of faults rose
counted : (before after : Shown Told) → Rose before.faults after.faults → 0 < after.faults
counted before after rose = omega (arith, rose)

module _ (Tells : Type 0) (site' : Shown Told) where
  abbrev IsStopOfDemo : Stop → Type 0
  IsStopOfDemo (Outside Inputs) = ⊥
  IsStopOfDemo (Outside Site) = 0 < site'.faults
  IsStopOfDemo (Outside Sink) = Unit {0}
  IsStopOfDemo Memory = Unit {0}
  IsStopOfDemo Visits = ¬ Tells
  IsStopOfDemo (Pattern text) = ⊥

  abbrev IsWorkOfDemo : Result End Stop → Type 0
  IsWorkOfDemo (Ok end) = IsEndOfDemo end
  IsWorkOfDemo (Err stop) = IsStopOfDemo stop

  putting : (IsText : List ℕ → Type 0) → (out out' : Shown (List ℕ)) (stop : Stop) → StopsPutting IsText out out' stop → IsStopOfDemo stop
  putting IsText out out' (Outside Inputs) h = absurd h
  putting IsText out out' (Outside Site) h = absurd h
  putting IsText out out' (Outside Sink) h = tt
  putting IsText out out' Memory h = tt
  putting IsText out out' Visits h = absurd h
  putting IsText out out' (Pattern text) h = absurd h

  module _ (laws : DemoLaws) (number : ℕ) (few : Few number) (setting : Setting) (same : setting.policy ≡ demo_tree number) (moment : ℕ) where
    never_large : (start : Start) → IsTooLarge (run_of setting start) → ⊥
    unfolding run_of
    never_large start large = laws.fits number few setting (real start) same large

    running : (site : Shown Told) → (Tells → IsTold site) → (Tells → IsTold site') → (stop : Stop) → StopsOnce setting moment site site' stop → IsStopOfDemo stop
    running site before after (Outside Inputs) h = absurd h
    running site before after (Outside Site) h = counted site site' h
    running site before after (Outside Sink) h = absurd h
    running site before after Memory h = tt
    running site before after Visits h = λ tells.
        let b = before tells in
        let a = after tells in
        let large = both_told _ site.told site'.told b.0 a.0 b.1 a.1 h in
        never_large _ large.1
    running site before after (Pattern text) h = absurd h

    second_told : (live : ℕ) (run : CountedRun) (out out' : Shown (List ℕ)) (result : Result End Stop) → SecondIsTold live run out out' result → IsWorkOfDemo result
    second_told live run out out' _ (demos.told put) = end_of (nat_lt 0 run.tally.failed)
    second_told live run out out' _ (demos.not_told {stop = stop} stops) = putting _ out out' stop stops

    again : (live : ℕ) (site : Shown Told) (out out' : Shown (List ℕ)) (result : Result End Stop) → (Tells → IsTold site) → (Tells → IsTold site') →
        RunsAgain setting moment live site site' out out' result → IsWorkOfDemo result
    again live site out out' result before after (demos.ran_again second ran tells) = second_told live second out out' result tells
    again live site out out' _ before after (demos.stopped_again {stop = stop} stops un) = running site before after stop stops

    first_told : (live : ℕ) (run : CountedRun) (site : Shown Told) (out out' : Shown (List ℕ)) (result : Result End Stop) → (Tells → IsTold site) → (Tells → IsTold site') →
        FirstIsTold setting moment live run site site' out out' result → IsWorkOfDemo result
    first_told live run site out out' result before after (demos.first_told mid put runs) = again live site mid out' result before after runs
    first_told live run site out out' _ before after (demos.first_not_told {stop = stop} un stops) = putting _ out out' stop stops

    twice : (live : ℕ) (site : Shown Told) (out out' : Shown (List ℕ)) (result : Result End Stop) → (Tells → IsTold site) → (Tells → IsTold site') →
        RunsTwice Tells setting moment live site site' out out' result → IsWorkOfDemo result
    twice live site out out' result before after (demos.ran_first mid first between ran told) = first_told live first mid out out' result between after told
    twice live site out out' _ before after (demos.stopped_first {stop = stop} stops un) = running site before after stop stops

    shown : (live : ℕ) (site : Shown Told) (out out' : Shown (List ℕ)) (result : Result End Stop) → (Tells → IsTold site) → (Tells → IsTold site') →
        IsShown Tells setting number moment live site site' out out' result → IsWorkOfDemo result
    shown live site out out' result before after (demos.begun mid put runs) = twice live site mid out' result before after runs
    shown live site out out' _ before after (demos.not_begun {stop = stop} un stops) = putting _ out out' stop stops

    is_accepted : IsAcceptance (analysis_of setting)
    is_accepted =
        let law = laws.accepted number few setting same in
        subst IsAcceptance (sym law.1) tt

    performed : (site : Shown Told) (out out' : Shown (List ℕ)) (result : Result End Stop) → (Tells → IsTold site) → (Tells → IsTold site') →
        IsPerformed Tells setting number moment site site' out out' result → IsWorkOfDemo result
    performed site out out' result before after (demos.accepted live is runs) = shown live site out out' result before after runs
    performed site out out' result before after (demos.in_conflict c is un put) = absurd (subst IsAcceptance is is_accepted)
    performed site out out' _ before after (demos.too_large is un un') = absurd (subst IsAcceptance is is_accepted)
    performed site out out' _ before after (demos.without_memory un un') = tt

  -- ---- how it ends

  by_end : (end : End) (out out' : Shown (List ℕ)) (status : ℕ) → IsEndOfDemo end → status ≡ status_of end → EndsDemo Tells site' out out' status
  by_end Ended out out' status h is = demos.kept_in_the_end is
  by_end PromiseFailed out out' status h is = demos.failed_in_the_end is
  by_end InConflict out out' status h is = absurd h

  -- the line of a stop is put, unless a put fails
  module _ (out mid out' : Shown (List ℕ)) (status : ℕ) where
    short : (line : List ℕ) → Stands out mid → (status ≡ 4) × PutsShort line mid out' → EndsDemo Tells site' out out' status
    short line same puts = demos.stopped_by_sink puts.0 (fault_along out mid out' same puts.1.failed.rose)

    by_stop : (stop : Stop) → IsStopOfDemo stop → CountsPuts out mid (Err stop) → PutsStop (stop_line stop) (status_of_stop stop) mid out' status → EndsDemo Tells site' out out' status
    by_stop (Outside Inputs) h counts puts = absurd h
    by_stop (Outside Site) h counts (inl puts) = demos.stopped_by_site puts.0 h
    by_stop (Outside Site) h counts (inr puts) = short _ counts puts
    by_stop (Outside Sink) h counts puts = demos.stopped_by_sink puts.0 (fault_before out mid out' counts (still mid out' puts.1))
    by_stop Memory h counts (inl puts) = demos.stopped_by_memory puts.0
    by_stop Memory h counts (inr puts) = short _ counts puts
    by_stop Visits h counts (inl puts) = demos.stopped_by_visits puts.0 h
    by_stop Visits h counts (inr puts) = short _ counts puts
    by_stop (Pattern text) h counts puts = absurd h

  by_failure : DemoLaws → (number : ℕ) → Few number → (failure : Failure) (out out' : Shown (List ℕ)) (status : ℕ) → FailsDemo number failure → PutsFailure failure out out' status → EndsDemo Tells site' out out' status
  by_failure laws number few (Refused line) out out' status fails puts = absurd (laws.never_refused number line few fails)
  by_failure laws number few (Stopped stop) out out' status fails puts =
      by_stop out out out' status Memory tt refl (subst (λ (s : Stop). PutsStop (stop_line s) (status_of_stop s) out out' status) fails puts)

  ends : DemoLaws → (number moment : ℕ) → Few number → moment ≤ LAST_MOMENT → (site : Shown Told) (out out' : Shown (List ℕ)) (status : ℕ) → (Tells → IsTold site) → (Tells → IsTold site') →
      Demonstrates Tells number moment site site' out out' status → EndsDemo Tells site' out out' status
  ends laws number moment few in_time site out out' status before after (demos.no_memory un puts) = by_stop out out out' status Memory tt refl puts
  ends laws number moment few in_time site out out' status before after (demos.late failure late is un puts) = absurd (omega (arith, late, in_time))
  ends laws number moment few in_time site out out' status before after (demos.not_taken failure also fails un puts) = by_failure laws number few failure out out' status fails puts
  ends laws number moment few in_time site out out' status before after (demos.ended {setting = setting} end also takes done is) =
      by_end end out out' status (performed laws number few setting (laws.one_tree number setting.policy few takes.valid_as) moment site out out' (Ok end) before after done) is
  ends laws number moment few in_time site out out' status before after (demos.stopped {setting = setting} stop mid also takes done puts) =
      by_stop out mid out' status stop (performed laws number few setting (laws.one_tree number setting.policy few takes.valid_as) moment site out mid (Err stop) before after done)
      (demo_counts Tells setting number moment site site' out mid (Err stop) done) puts

  pub asked_ends : DemoLaws → (words : List Text) (number moment : ℕ) → demo_asked words ≡ Some number → moment ≤ LAST_MOMENT →
      (site : Shown Told) (out out' : Shown (List ℕ)) (status : ℕ) → (Tells → IsTold site) → (Tells → IsTold site') →
      Demonstrates Tells number moment site site' out out' status → EndsDemo Tells site' out out' status
  asked_ends laws words number moment asks in_time site out out' status before after d =
      ends laws number moment (few_asked words number asks) in_time site out out' status before after d
