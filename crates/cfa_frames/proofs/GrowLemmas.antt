-- What has happened stays.
use Rattle.std.proofs.Common.{◌≡◌, ◌∙◌, ℕ, zero, suc, Bool, IsTrue, true, false, List, [], ◌∷◌, ◌++◌, refl, ap, sym, subst, arith, append_assoc}
use Rattle.cfa_outcomes.specs.declared.outcomes.Outcome.{Outcome}
use Rattle.cfa_resolve.specs.Laws.{InstancesAreFew}
use Rattle.cfa_resolve.specs.declared.instances.Instance.{Instance}
use Rattle.cfa_states.specs.History.{History, Event, Told}
use Rattle.cfa_states.specs.Levels.{is_quiet, outcomes_of}
use Rattle.cfa_states.specs.Passes.{Course, goes, too_large}
use Rattle.cfa_states.specs.Tellers.{Teller}
use Rattle.cfa_states.specs.Views.{Setting}
use Rattle.cfa_statuses.specs.declared.levels.Status.{Status}
use Rattle.cfa_frames.specs.Frames.{Stack, rest}
use Rattle.cfa_frames.specs.Growing.{Grows, CourseGrows, NextGrows}
use Rattle.cfa_frames.specs.Moves.{Next, goes_on, is_too_large, Need, nothing, skipping, ending, over, need_of, moved, skipped, entered, ended, asked_next, answered, then_moves, come_to}
use Rattle.cfa_frames.specs.Steps.{is_actuation}
use Rattle.cfa_frames.specs.Weights.{weight}
use Rattle.cfa_frames.proofs.AddLemmas.{NextHas, moved_has, skipped_has, entered_has, ended_has}
use Rattle.cfa_frames.proofs.RunLemmas.{moves_come}

-- ---- histories

pub stays_same : (h : History) → Grows h h
stays_same h = ([], refl)

pub grows_then : (h k m : History) → Grows h k → Grows k m → Grows h m
grows_then h k m hk km =
    (km.0 ++ hk.0, km.1 ∙ (ap (λ (k : History). km.0 ++ k) hk.1 ∙ sym (append_assoc km.0 hk.0 h)))

one_came : (event : Event) (h : History) → Grows h (event ∷ h)
one_came event h = (event ∷ [], refl)

came : (event : Event) (h : History) → IsTrue (is_quiet event) → Grows h (event ∷ h)
came event h quiet = one_came event h

heard : (event : Event) (h : History) → is_actuation event ≡ false → Grows h (event ∷ h)
heard event h none = one_came event h

-- ---- moves and answers

has_grown : (h : History) (x : Next) → NextHas Grows h x → NextGrows h x
has_grown h (goes_on st k) has = has
has_grown h (is_too_large k) has = has

pub moved_grows : (s : Setting) (st : Stack) (h : History) → NextGrows h (moved s st h)
moved_grows s st h = has_grown h (moved s st h) (moved_has Grows stays_same grows_then came s st h)

pub entered_grows : (s : Setting) (st : Stack) (h : History) → NextGrows h (entered s st h)
entered_grows s st h = has_grown h (entered s st h) (entered_has Grows stays_same grows_then came heard s st h)

pub skipped_grows : (st : Stack) (h : History) → NextGrows h (skipped st h)
skipped_grows st h = has_grown h (skipped st h) (skipped_has Grows stays_same grows_then came heard st h)

pub ended_grows : (os : List Outcome) (st : Stack) (h : History) → NextGrows h (ended os st h)
ended_grows os st h =
    has_grown h (ended os st h)
    (ended_has Grows stays_same grows_then came heard os st h (λ (i : Instance) (status : Status) need. one_came (Told i os) h))

pub next_grows : (h k : History) (x : Next) → Grows h k → NextGrows k x → NextGrows h x
next_grows h k (goes_on st m) first next = grows_then h k m first next
next_grows h k (is_too_large m) first next = grows_then h k m first next

-- ---- what is left

module _ (s : Setting) (t : Teller) where
  asked_grows : (b : Bool) (st : Stack) (h : History) → NextGrows h (asked_next s t b st h)
  asked_grows true st h = skipped_grows st h
  asked_grows false st h = entered_grows s st h

  pub answered_grows : (x : Need) (st : Stack) (h : History) → NextGrows h (answered s t x st h)
  answered_grows nothing st h = moved_grows s st h
  answered_grows (skipping i status) st h = asked_grows (t.skips h i) st h
  answered_grows (ending i status) st h = ended_grows (outcomes_of t h i i.work) st h
  answered_grows over st h = stays_same h

  course_grows : (h k : History) (c : Course) → Grows h k → CourseGrows k c → CourseGrows h c
  course_grows h k (goes m) first next = grows_then h k m first next
  course_grows h k (too_large m) first next = grows_then h k m first next

  then_grows : (n : ℕ) → ((st : Stack) (h : History) → CourseGrows h (come_to s t n st h)) → (x : Next) (h : History) → NextGrows h x → CourseGrows h (then_moves s t x (come_to s t n))
  then_grows n comes (goes_on st k) h grows = course_grows h k (come_to s t n st k) grows (comes st k)
  then_grows n comes (is_too_large k) h grows = grows

  come_to_grows : (n : ℕ) (st : Stack) (h : History) → CourseGrows h (come_to s t n st h)
  come_to_grows zero st h = stays_same h
  come_to_grows (suc n) st h = then_grows n (come_to_grows n) (answered s t (need_of st) st h) h (answered_grows (need_of st) st h)

  pub rest_grows : InstancesAreFew → (st : Stack) (h : History) → CourseGrows h (rest s t st h)
  rest_grows few st h =
      subst (CourseGrows h) (moves_come few s t (suc (weight s st h)) st h (omega arith)) (come_to_grows (suc (weight s st h)) st h)
