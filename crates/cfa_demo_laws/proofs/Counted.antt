-- How many visits the levels of a run add to those that are counted: of some levels one after the other, their sum.
use Rattle.std.proofs.Common.{◌≡◌, refl, ◌∙◌, ℕ, zero, suc, ◌+◌, ◌≤◌, Bool, true, false, List, [], ◌∷◌, length, Some, arith}
use Rattle.std.specs.Prelude.{nat_le}
use Rattle.std.specs.List.{AllByRecursion as Each}
use Rattle.std.proofs.lemmas.Bool.{le-leb}
use Rattle.cfa_statuses.specs.declared.levels.Status.{Status}
use Rattle.cfa_statuses.specs.declared.levels.Status.TheVariants.{No, Maybe, Yes}
use Rattle.cfa_outcomes.specs.declared.outcomes.Outcome.{Outcome}
use Rattle.cfa_resolve.specs.declared.instances.Instance.{Instance}
use Rattle.cfa_resolve.specs.declared.instances.Work.{Work}
use Rattle.cfa_resolve.specs.declared.instances.Work.TheVariants.{Acts, Call, Report}
use Rattle.cfa_states.specs.History.{History, Home, everywhere, Raised, Reached, Listed, Told, mark_in, visits_in}
use Rattle.cfa_states.specs.Numbered.{Numbered}
use Rattle.cfa_states.specs.Levels.{GoesTo}
use Rattle.cfa_states.specs.Passes.{Course, goes, too_large, then_on, each, classes_for, in_every_list, raised_to, raise_each, raise_lists, told, Calls, worked, unless_skipped, visited, visit_status, visit, instances_from, within_limit, reached}
use Rattle.cfa_states.specs.Tellers.{Teller}
use Rattle.cfa_demo_laws.proofs.Resolving.{IsActs}

abbrev pub most : ℕ
most = 1000000

-- where the limit leaves room for so many visits, a level goes on with no more of them
abbrev pub AddsAtMost : ℕ → (History → Course) → Type 0
AddsAtMost b does = (h : History) → visits_in h + b ≤ most → GoesTo (does h) (λ k. visits_in k ≤ visits_in h + b)

-- ---- one level after the other

goes_weaker : (c : Course) (P Q : History → Type 0) → ((h : History) → P h → Q h) → GoesTo c P → GoesTo c Q
goes_weaker (goes h) P Q weaker p = weaker h p
goes_weaker (too_large h) P Q weaker p = p

pub then_goes : (c : Course) (next : History → Course) (P Q : History → Type 0) → GoesTo c P → ((h : History) → P h → GoesTo (next h) Q) → GoesTo (then_on c next) Q
then_goes (goes h) next P Q p f = f h p
then_goes (too_large h) next P Q p f = p

pub adds_then : (a b : ℕ) (f g : History → Course) → AddsAtMost a f → AddsAtMost b g → AddsAtMost (a + b) (λ h. then_on (f h) g)
adds_then a b f g first second h fits =
    then_goes (f h) g (λ k. visits_in k ≤ visits_in h + a) (λ k. visits_in k ≤ visits_in h + (a + b)) (first h (omega arith))
    (λ k within. goes_weaker (g k) (λ m. visits_in m ≤ visits_in k + b) (λ m. visits_in m ≤ visits_in h + (a + b)) (λ m also. omega arith) (second k (omega arith)))

abbrev pub times : ℕ → ℕ → ℕ
times zero b = 0
times (suc n) b = b + times n b

pub adds_each : {X : Type 0} (does : X → History → Course) (b : ℕ) (xs : List X) → Each (λ x. AddsAtMost b (does x)) xs → AddsAtMost (times (length xs) b) (each does xs)
adds_each does b [] all h fits = omega arith
adds_each does b (x ∷ xs) all h fits =
    adds_then b (times (length xs) b) (does x) (each does xs) all.0 (adds_each does b xs all.1) h fits

pub times_zero : (n : ℕ) → times n 0 ≡ 0
times_zero zero = refl
times_zero (suc n) = omega (arith, times_zero n)

pub times_one : (n : ℕ) → times n 1 ≡ n
times_one zero = refl
times_one (suc n) = omega (arith, times_one n)

pub adds_weaker : (a b : ℕ) (does : History → Course) → a ≤ b → AddsAtMost a does → AddsAtMost b does
adds_weaker a b does less adds h fits =
    goes_weaker (does h) (λ k. visits_in k ≤ visits_in h + a) (λ k. visits_in k ≤ visits_in h + b) (λ k within. omega arith) (adds h (omega arith))

-- ---- visits of instances with acts

raise_each_counts : (i : Instance) (outcomes : List Outcome) (status : Status) (classes : List (List ℕ)) (h : History) → visits_in (raise_each i outcomes status classes h) ≡ visits_in h
raise_each_counts i outcomes status [] h = refl
raise_each_counts i outcomes status (class ∷ classes) h =
    raise_each_counts i outcomes status classes (Raised everywhere class (raised_to status (in_every_list i outcomes class)) (Some i.source) ∷ h)

raise_lists_counts : (i : Instance) (outcomes others : List Outcome) (status : Status) (h : History) → visits_in (raise_lists i outcomes others status h) ≡ visits_in h
raise_lists_counts i outcomes [] status h = refl
raise_lists_counts i outcomes (outcome ∷ others) status h =
    raise_lists_counts i outcomes others status (raise_each i outcomes status (classes_for i outcome) h)
    ∙ raise_each_counts i outcomes status (classes_for i outcome) h

told_counts : (i : Instance) (outcomes : List Outcome) (status : Status) (h : History) → visits_in (told i outcomes status h) ≡ visits_in h
unfolding told
told_counts i outcomes status h = raise_lists_counts i outcomes outcomes status (Told i outcomes ∷ h)

module _ (teller : Teller) (activate : Calls) where
  worked_adds : (i : Instance) (work : Work) (status : Status) (h : History) → IsActs work → GoesTo (worked teller activate i work status h) (λ k. visits_in k ≤ visits_in h + 0)
  worked_adds i (Acts acts) status h acting = omega (arith, told_counts i (teller.tells h i) status h)
  worked_adds i (Call name arguments) status h acting = absurd acting
  worked_adds i (Report content) status h acting = absurd acting

  unless_adds : (i : Instance) (status : Status) (skipped : Bool) (h : History) → IsActs i.work → GoesTo (unless_skipped teller activate i status skipped h) (λ k. visits_in k ≤ visits_in h + 0)
  unless_adds i status true h acting = omega arith
  unless_adds i status false h acting = worked_adds i i.work status h acting

  visited_adds : (i : Instance) (status : Status) (h : History) → IsActs i.work → GoesTo (visited teller activate i status h) (λ k. visits_in k ≤ visits_in h + 0)
  visited_adds i No h acting = omega arith
  visited_adds i Maybe h acting = unless_adds i Maybe (teller.skips h i) (Listed i Maybe ∷ h) acting
  visited_adds i Yes h acting = unless_adds i Yes (teller.skips h i) (Listed i Yes ∷ h) acting

  visit_adds : (guard activation : Status) (i : Instance) → IsActs i.work → AddsAtMost 0 (visit teller activate guard activation i)
  unfolding visit
  visit_adds guard activation i acting h fits = visited_adds i (visit_status guard activation (mark_in h i.path i.text)) h acting

  all_visits : (guard activation : Status) (instances : List Instance) → Each (λ i. IsActs i.work) instances → Each (λ i. AddsAtMost 0 (visit teller activate guard activation i)) instances
  all_visits guard activation [] all = tt
  all_visits guard activation (i ∷ more) all = (visit_adds guard activation i all.0, all_visits guard activation more all.1)

  pub instances_add : (guard activation : Status) (instances : List Instance) → Each (λ i. IsActs i.work) instances → AddsAtMost 0 (instances_from teller activate guard activation instances)
  instances_add guard activation instances all h fits =
      let none = times_zero (length instances) in
      goes_weaker (instances_from teller activate guard activation instances h)
      (λ k. visits_in k ≤ visits_in h + times (length instances) 0) (λ k. visits_in k ≤ visits_in h + 0) (λ k within. omega arith)
      (adds_each (visit teller activate guard activation) 0 instances (all_visits guard activation instances all) h (omega arith))

-- ---- a promise that is reached

limit_adds : (ok : Bool) (course : Course) (h : History) (P : History → Type 0) → ok ≡ true → GoesTo course P → GoesTo (within_limit ok course h) P
limit_adds true course h P is p = p
limit_adds false course h P is p = absurd (cc)

pub reached_adds : (home : Home) (p : Numbered) (guard : Status) (visits : ℕ) (next : History → Course) → visits ≤ 1 → AddsAtMost 0 next → AddsAtMost 1 (reached home p guard false visits next)
reached_adds home p guard visits next few adds h fits =
    limit_adds (nat_le (visits + visits_in h) most) (next (Reached home p guard false visits ∷ h)) (Reached home p guard false visits ∷ h)
    (λ k. visits_in k ≤ visits_in h + 1) (le-leb (visits + visits_in h) most (omega arith))
    (goes_weaker (next (Reached home p guard false visits ∷ h)) (λ k. visits_in k ≤ (visits + visits_in h) + 0) (λ k. visits_in k ≤ visits_in h + 1) (λ k within. omega arith)
    (adds (Reached home p guard false visits ∷ h) (omega arith)))
