-- The instances of a promise are no more than the visits that it counts.
use Rattle.std.proofs.Common.{◌≡◌, ◌≤◌, ◌+◌, ℕ, Bool, true, false, List, [], ◌∷◌, length, Option, Some, None, refl, arith}
use Rattle.std.specs.List.{cons_option, list_any}
use Rattle.std.proofs.lemmas.Bool.Decides.{nat_tests}
use Rattle.cfa_vars.specs.Expansion.{Chosen}
use Rattle.cfa_defines.specs.declared.combining.Combined.TheVariants.{Found as found}
use Rattle.cfa_defines.specs.OwnTexts.{combined, combined_by, own_reads, first_lacking, has_too_many, has_too_long, choices_among, found_or_too_long}
use Rattle.cfa_scripts.specs.EditPromises.{at_least_one}
use Rattle.cfa_resolve.specs.declared.instances.Instance.{Instance}
use Rattle.cfa_resolve.specs.declared.combinations.Made.{Made}
use Rattle.cfa_resolve.specs.declared.combinations.Made.TheVariants.{Instance as an_instance, Nothing as nothing_for}
use Rattle.cfa_resolve.specs.Instances.{Reached}
use Rattle.cfa_resolve.specs.Laws.{InstancesAreFew}
use Rattle.cfa_resolve.specs.Resolution.{made_for, instance_in, instances_for, resolved_as, resolution}

at_most_one : (m : Made) (rest : List Instance) → length (cons_option (instance_in m) rest) ≤ length rest + 1
at_most_one (an_instance i) rest = omega arith
at_most_one (nothing_for name) rest = omega arith

few_for : (r : Reached) (choices : List Chosen) → length (instances_for r choices) ≤ length choices
few_for r [] = omega arith
few_for r (choice ∷ choices) =
    let here = at_most_one (made_for r choice) (instances_for r choices) in
    let later = few_for r choices in
    omega (arith, here, later)

some_at_least : (n : ℕ) → n ≤ at_least_one n
some_at_least n = grind (arith, nat_tests)

some_choice : {X : Type 0} (test : X → Bool) (xs : List X) → list_any test xs ≡ true → 1 ≤ length xs
some_choice test [] h = cc
some_choice test (x ∷ xs) h = omega arith

few_found : (r : Reached) (choices : List Chosen) → length (resolved_as r (found choices)).instances ≤ (resolved_as r (found choices)).visits
few_found r choices =
    let few = few_for r choices in
    let least = some_at_least (length choices) in
    omega (arith, few, least)

few_by_length : (r : Reached) (b : Bool) (choices : List Chosen) → (b ≡ true → 1 ≤ length choices) → length (resolved_as r (found_or_too_long b choices)).instances ≤ (resolved_as r (found_or_too_long b choices)).visits
few_by_length r true choices h = h refl
few_by_length r false choices h = few_found r choices

few_by : (r : Reached) (lack : Option (List ℕ)) (many : Bool) → length (resolved_as r (combined_by r.scopes (own_reads r.type r.promise) lack many)).instances ≤ (resolved_as r (combined_by r.scopes (own_reads r.type r.promise) lack many)).visits
few_by r (Some name) many = omega arith
few_by r None true = omega arith
few_by r None false =
    let reads = own_reads r.type r.promise in
    let choices = choices_among r.scopes reads in
    few_by_length r (list_any (has_too_long r.scopes reads) choices) choices (some_choice (has_too_long r.scopes reads) choices)

pub instances_few : InstancesAreFew
unfolding resolution combined
instances_few r = few_by r (first_lacking r.scopes (own_reads r.type r.promise)) (has_too_many r.scopes (own_reads r.type r.promise))
