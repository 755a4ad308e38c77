-- No run of a demo counts too many visits: none of its promises has a guard, and each counts one visit in each of three passes.
use Rattle.std.proofs.Common.{◌≡◌, refl, sym, ap, subst, ℕ, zero, suc, ◌+◌, ◌≤◌, Bool, true, false, cond, List, [], ◌∷◌, ◌++◌, map, length, length-append, codes, Option, arith}
use Rattle.std.specs.List.{AllByRecursion as Each}
use Rattle.cfa_tree.specs.Tree.{ExprTree, PromiseTree, PolicyTree}
use Rattle.cfa_kinds.specs.declared.kinds.PromiseType.{PromiseType}
use Rattle.cfa_kinds.specs.declared.kinds.PromiseType.TheVariants as promises
use Rattle.cfa_kinds.specs.Kinds.{bundle_type, promise_type}
use Rattle.cfa_statuses.specs.declared.levels.Status.{Status}
use Rattle.cfa_statuses.specs.declared.levels.Status.TheVariants.{Yes}
use Rattle.cfa_served.specs.Control.{sequence_of}
use Rattle.cfa_served.specs.Served.{bundle_of, common_bundles_of}
use Rattle.cfa_resolve.specs.Resolution.{resolution}
use Rattle.cfa_states.specs.History.{History, Home, Where, within, Begun, visits_in}
use Rattle.cfa_states.specs.Numbered.{Numbered, numbered_from, agent_types, is_type, of_type}
use Rattle.cfa_states.specs.Levels.{GoesTo, IsTooLarge}
use Rattle.cfa_states.specs.Passes.{Course, goes, too_large, Calls, instances_from, kept_by, guarded, reach, promises_from, types_from, passes, all_calls, common_passes, run}
use Rattle.cfa_states.specs.Tellers.{Teller}
use Rattle.cfa_states.specs.Views.{Setting, guard_status, reached_in_history}
use Rattle.cfa_demo_laws.specs.Trees.{promise_tree, promise_trees, demo_tree}
use Rattle.cfa_demo_laws.specs.Runs.{DemoRunsFit}
use Rattle.cfa_demo_laws.proofs.Simple.{Simple, promise_is_simple, IsOfNumber, each_of_number}
use Rattle.cfa_demo_laws.proofs.Counted.{AddsAtMost, then_goes, adds_then, times, adds_each, times_one, adds_weaker, instances_add, reached_adds}
use Rattle.cfa_demo_laws.proofs.Resolving.{instances_act, one_visit}

-- ---- what holds of each promise

pub record SimpleFile (p : Numbered) : Type 0 where
  pub is_file : p.type ≡ promises.Files
  pub simple : Simple p.promise

simple_from : (p : PromiseTree) → IsOfNumber p → Simple p
simple_from p of = subst Simple (sym of.is) (promise_is_simple of.line of.kind of.number of.number_below of.kind_below)

all_simple : (ps : List PromiseTree) → Each IsOfNumber ps → Each Simple ps
all_simple [] all = tt
all_simple (p ∷ ps) all = (simple_from p all.0, all_simple ps all.1)

promises_are_simple : (n : ℕ) → n ≤ 10000 → Each Simple (promise_trees n)
promises_are_simple n few = all_simple (promise_trees n) (each_of_number n few)

length_promises : (n : ℕ) → length (promise_trees n) ≡ n
unfolding promise_trees
length_promises zero = refl
length_promises (suc k) = omega (arith, length_promises k, length-append (promise_trees k) (promise_tree k ∷ []))

abbrev numbered : (number : ℕ) → List PromiseTree → List Numbered
numbered number ps = numbered_from (codes "main") number (map (λ p. (codes "files", p)) ps ++ [])

numbered_are_simple : (number : ℕ) (ps : List PromiseTree) → Each Simple ps → Each SimpleFile (numbered number ps)
unfolding promise_type
numbered_are_simple number [] all = tt
numbered_are_simple number (p ∷ ps) all = (record { is_file = refl; simple = all.0 }, numbered_are_simple (number + 1) ps all.1)

length_numbered : (number : ℕ) (ps : List PromiseTree) → length (numbered number ps) ≡ length ps
unfolding promise_type
length_numbered number [] = refl
length_numbered number (p ∷ ps) = ap suc (length_numbered (number + 1) ps)

-- ---- of a type

kept_each : (test : Bool) (p : Numbered) (rest : List Numbered) → SimpleFile p → Each SimpleFile rest → Each SimpleFile (cond test (p ∷ rest) rest)
kept_each true p rest simple all = (simple, all)
kept_each false p rest simple all = all

of_type_simple : (type : PromiseType) (ps : List Numbered) → Each SimpleFile ps → Each SimpleFile (of_type type ps)
of_type_simple type [] all = tt
of_type_simple type (p ∷ ps) all = kept_each (is_type type p.type) p (of_type type ps) all.0 (of_type_simple type ps all.1)

kept_length : (test : Bool) (p : Numbered) (rest : List Numbered) → length (cond test (p ∷ rest) rest) ≤ suc (length rest)
kept_length true p rest = omega arith
kept_length false p rest = omega arith

of_type_length : (type : PromiseType) (ps : List Numbered) → length (of_type type ps) ≤ length ps
of_type_length type [] = omega arith
of_type_length type (p ∷ ps) = omega (arith, of_type_length type ps, kept_length (is_type type p.type) p (of_type type ps))

-- ---- levels

module _ (s : Setting) (teller : Teller) (activate : Calls) (place : Where) (home : Home) (activation : Status) where
  file_adds : (p : Numbered) → Simple p.promise → AddsAtMost 1 (kept_by s teller activate place home activation p promises.Files Yes)
  file_adds p simple h fits =
      let r = reached_in_history s h home promises.Files p in
      reached_adds home p Yes (resolution r).visits (instances_from teller activate Yes activation (resolution r).instances)
      (one_visit r simple.no_edits simple.no_names) (instances_add teller activate Yes activation (resolution r).instances (instances_act r refl)) h fits

  reach_adds : (p : Numbered) → SimpleFile p → AddsAtMost 1 (reach s teller activate place home activation p)
  unfolding reach
  reach_adds p file h fits =
      subst (λ (g : Option ExprTree). GoesTo (guarded s teller activate place home activation p (guard_status s h home.path g) h) (λ k. visits_in k ≤ visits_in h + 1))
      (sym file.simple.no_guard)
      (subst (λ (type : PromiseType). GoesTo (kept_by s teller activate place home activation p type Yes h) (λ k. visits_in k ≤ visits_in h + 1))
      (sym file.is_file) (file_adds p file.simple h fits))

  each_reach : (ps : List Numbered) → Each SimpleFile ps → Each (λ p. AddsAtMost 1 (reach s teller activate place home activation p)) ps
  each_reach [] all = tt
  each_reach (p ∷ ps) all = (reach_adds p all.0, each_reach ps all.1)

  module _ (ps : List Numbered) (all : Each SimpleFile ps) where
    type_adds : (type : PromiseType) → AddsAtMost (length ps) (promises_from s teller activate place home activation (of_type type ps))
    type_adds type =
        let some = of_type type ps in
        let fewer = of_type_length type ps in
        let ones = times_one (length some) in
        adds_weaker (times (length some) 1) (length ps) (promises_from s teller activate place home activation some) (omega arith)
        (adds_each (reach s teller activate place home activation) 1 some (each_reach some (of_type_simple type ps all)))

    each_type : (types : List PromiseType) → Each (λ type. AddsAtMost (length ps) (promises_from s teller activate place home activation (of_type type ps))) types
    each_type [] = tt
    each_type (type ∷ types) = (type_adds type, each_type types)

    types_add : AddsAtMost (times 6 (length ps)) (types_from s teller activate place home activation ps agent_types)
    types_add = adds_each (λ type. promises_from s teller activate place home activation (of_type type ps)) (length ps) agent_types (each_type agent_types)

    passes_add : (count : ℕ) → AddsAtMost (times count (times 6 (length ps))) (passes s teller activate place home activation ps count)
    unfolding passes
    passes_add zero h fits = omega arith
    passes_add (suc count) h fits =
        adds_then (times 6 (length ps)) (times count (times 6 (length ps))) (types_from s teller activate place home activation ps agent_types)
        (passes s teller activate place home activation ps count) types_add (passes_add count) h fits

-- ---- the run

goes_on_to : (c : Course) (P : History → Type 0) → GoesTo c P → IsTooLarge c → ⊥
goes_on_to (goes h) P p large = large
goes_on_to (too_large h) P p large = p

module _ (n : ℕ) (few : n ≤ 10000) (classes : List (List ℕ)) (teller : Teller) where
  abbrev setting : Setting
  setting = record { policy = demo_tree n; classes = classes }

  abbrev in_main : Home
  in_main = record { path = codes "main"; bundle = codes "main" }

  abbrev main_promises : List Numbered
  main_promises = numbered 1 (promise_trees n)

  abbrev IsWithin : History → Type 0
  IsWithin k = visits_in k ≤ 0 + times 3 (times 6 (length main_promises))

  main_goes_on : GoesTo (passes setting teller (all_calls setting teller) (within (codes "main")) in_main Yes main_promises 3 (Begun (codes "main") [] ∷ [])) IsWithin
  main_goes_on =
      passes_add setting teller (all_calls setting teller) (within (codes "main")) in_main Yes main_promises
      (numbered_are_simple 1 (promise_trees n) (promises_are_simple n few)) 3 (Begun (codes "main") [] ∷ [])
      (omega (arith, length_numbered 1 (promise_trees n), length_promises n))

  run_goes_on : GoesTo (run setting teller) IsWithin
  unfolding run common_passes common_bundles_of bundle_type sequence_of bundle_of demo_tree
  run_goes_on =
      then_goes (passes setting teller (all_calls setting teller) (within (codes "main")) in_main Yes main_promises 3 (Begun (codes "main") [] ∷ []))
      (λ h. goes h) IsWithin IsWithin main_goes_on (λ h p. p)

  run_fits : IsTooLarge (run setting teller) → ⊥
  run_fits large = goes_on_to (run setting teller) IsWithin run_goes_on large

pub demo_runs_fit : DemoRunsFit
demo_runs_fit n few s teller is large =
    run_fits n few s.classes teller (subst (λ (policy : PolicyTree). IsTooLarge (run (record { policy = policy; classes = s.classes }) teller)) is large)
