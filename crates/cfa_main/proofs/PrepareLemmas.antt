-- What is known when a call has been read.
use Rattle.std.proofs.Common.{◌≡◌, ◌<◌, ◌≤◌, ℕ, List, Some, None, Option, Result, Ok, Err, refl, sym, subst, ◌∙◌, arith}
use Rattle.std.proofs.lemmas.Option.{none-some}
use Rattle.cfa_base.specs.lemmas.Options.{some_weaker}
use Rattle.cfa_base.specs.declared.limits.TheConstants.{LAST_MOMENT}
use Rattle.cfa_base.specs.Shown.{Shown}
use Rattle.cfa_words.specs.declared.words.Request.{Request}
use Rattle.cfa_words.specs.Words.{asked}
use Rattle.cfa_outside.specs.Inputs.{Library}
use Rattle.cfa_output.specs.declared.ends.Object.TheVariants.{Inputs, Site, Sink}
use Rattle.cfa_output.specs.declared.ends.Stop.TheVariants.{Outside, Memory, Visits, Pattern}
use Rattle.cfa_output.specs.declared.ends.Failure.{Failure}
use Rattle.cfa_output.specs.declared.ends.Failure.TheVariants.{Refused, Stopped}
use Rattle.cfa_output.specs.Lines.{words_line, moment_line}
use Rattle.cfa_sources.specs.Readings.{FailsNext}
use Rattle.cfa_main.specs.declared.work.Work.{Work}
use Rattle.cfa_main.specs.Ends.{RefusesCall, of_words, of_moment, of_request, IsNextOf, AsksNext}
use Rattle.cfa_main.specs.Stages.{IsRefusalWith, RequestPrepared, Prepared}

pub none_or_some : {o : Option Request} {request : Request} → o ≡ None → o ≡ Some request → ⊥
none_or_some {o} {request} none some = none-some request (sym none ∙ some)

module _ (words : List (List ℕ)) (moment : ℕ) (inputs : Shown Library) (pats : Shown (List (List ℕ))) where
  pub words_refused : (failure : Failure) → asked words ≡ None → IsRefusalWith words_line failure → Prepared words moment inputs inputs pats pats (Err failure)
  words_refused (Refused told) none same = record {
    work = tt;
    refused = subst (RefusesCall words moment inputs.told) (sym same) (of_words none);
    words_refused = λ _. (same, refl);
    moment_refused = λ some late. absurd (some none);
    inputs_are = refl;
    patterns_are = refl;
  }
  words_refused (Stopped Memory) none same = record {
    work = tt;
    refused = tt;
    words_refused = λ _. (tt, refl);
    moment_refused = λ some late. absurd (some none);
    inputs_are = record { told = refl; later = omega arith };
    patterns_are = refl;
  }
  words_refused (Stopped (Outside object)) none same = absurd same
  words_refused (Stopped Visits) none same = absurd same
  words_refused (Stopped (Pattern text)) none same = absurd same

  pub moment_refused : (failure : Failure) (request : Request) → asked words ≡ Some request → LAST_MOMENT < moment → IsRefusalWith moment_line failure → Prepared words moment inputs inputs pats pats (Err failure)
  moment_refused (Refused told) request some late same = record {
    work = tt;
    refused = subst (RefusesCall words moment inputs.told) (sym same) (of_moment some late);
    words_refused = λ none. absurd (none_or_some none some);
    moment_refused = λ _ _. (same, refl);
    inputs_are = refl;
    patterns_are = refl;
  }
  moment_refused (Stopped Memory) request some late same = record {
    work = tt;
    refused = tt;
    words_refused = λ none. absurd (none_or_some none some);
    moment_refused = λ _ _. (tt, refl);
    inputs_are = record { told = refl; later = omega arith };
    patterns_are = refl;
  }
  moment_refused (Stopped (Outside object)) request some late same = absurd same
  moment_refused (Stopped Visits) request some late same = absurd same
  moment_refused (Stopped (Pattern text)) request some late same = absurd same

  module _ (request : Request) (asks : asked words ≡ Some request) (in_time : moment ≤ LAST_MOMENT) (inputs' : Shown Library) (pats' : Shown (List (List ℕ))) where
    next_asked : FailsNext (IsNextOf request) inputs inputs' → FailsNext (AsksNext words) inputs inputs'
    next_asked f = record {
      name = f.name;
      next = some_weaker inputs.told _ _ (λ lib _ is. (request, asks, is)) f.next;
      failed = f.failed;
    }

    never_late : LAST_MOMENT < moment → ⊥
    never_late late = omega (arith, late, in_time)

    pub prepared : (result : Result Work Failure) → RequestPrepared request moment inputs inputs' pats pats' result → Prepared words moment inputs inputs' pats pats' result
    prepared (Ok work) p = record {
      work = record { request = request; asked_is = asks; in_time = in_time; is_work = p.work };
      refused = tt;
      words_refused = λ none. absurd (none_or_some none asks);
      moment_refused = λ _ late. absurd (never_late late);
      inputs_are = p.inputs_are;
      patterns_are = p.patterns_are;
    }
    prepared (Err (Refused line)) p = record {
      work = tt;
      refused = of_request asks in_time p.refused;
      words_refused = λ none. absurd (none_or_some none asks);
      moment_refused = λ _ late. absurd (never_late late);
      inputs_are = p.inputs_are;
      patterns_are = p.patterns_are;
    }
    prepared (Err (Stopped (Outside Inputs))) p = record {
      work = tt;
      refused = tt;
      words_refused = λ none. absurd (none_or_some none asks);
      moment_refused = λ _ late. absurd (never_late late);
      inputs_are = next_asked p.inputs_are;
      patterns_are = p.patterns_are;
    }
    prepared (Err (Stopped (Outside Site))) p = absurd p.inputs_are
    prepared (Err (Stopped (Outside Sink))) p = absurd p.inputs_are
    prepared (Err (Stopped Memory)) p = record {
      work = tt;
      refused = tt;
      words_refused = λ none. absurd (none_or_some none asks);
      moment_refused = λ _ late. absurd (never_late late);
      inputs_are = p.inputs_are;
      patterns_are = p.patterns_are;
    }
    prepared (Err (Stopped Visits)) p = absurd p.inputs_are
    prepared (Err (Stopped (Pattern text))) p = record {
      work = tt;
      refused = tt;
      words_refused = λ none. absurd (none_or_some none asks);
      moment_refused = λ _ late. absurd (never_late late);
      inputs_are = p.inputs_are;
      patterns_are = ((request, asks, p.patterns_are.0), p.patterns_are.1);
    }
