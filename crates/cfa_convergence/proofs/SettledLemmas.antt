-- Where the lists of a walk leave nothing to blame, nothing is unsettled.
use Rattle.std.proofs.Common.{◌≡◌, Bool, true, false, List, [], ◌∷◌, ◌++◌, Option, Some, None, refl}
use Rattle.std.specs.Prelude.{option_map}
use Rattle.std.specs.List.{AllByRecursion as Each, filter_map, cons_option}
use Rattle.cfa_base.specs.lemmas.Lists.{none_left, none_right}
use Rattle.cfa_statuses.specs.declared.levels.Status.{Status}
use Rattle.cfa_statuses.specs.declared.levels.Status.TheVariants.{No, Maybe, Yes}
use Rattle.cfa_states.specs.History.{History, Begun, Set, Raised, Reached, Listed, Told, global_source}
use Rattle.cfa_states.specs.Numbered.{Numbered}
use Rattle.cfa_states.specs.Views.{Setting, Home}
use Rattle.cfa_states.specs.Waits.{wait_of_guard}
use Rattle.cfa_states.specs.Walks.{blame_for, blame_edit, own_unsettled, unsettled_edits, edits_unsettled, unsettled_promises}
use Rattle.cfa_convergence.specs.Contained.{GuardIsSettled, EditsAreSettled, IsSettled}
use Rattle.cfa_convergence.specs.Keys.{KeysTellWorks}
use Rattle.cfa_laws.specs.Keys.{InstancesAreKeyed, KeysAreLines}
use Rattle.cfa_laws.specs.Sources.{RaisesHaveFirst, UnsettledAreMaybe}
use Rattle.cfa_convergence.specs.Sources.{UnlistedAreSettled}
use Rattle.cfa_convergence.proofs.BlameLemmas.{EditsAreBlamed, AreBlamed}
use Rattle.cfa_convergence.proofs.BlamingLemmas.{walk_blamed}
use Rattle.cfa_convergence.proofs.SourceLemmas.{IsGiven, mapped_given}

given_stands : {X : Type 0} (o : Option X) (xs : List X) → IsGiven o → cons_option o xs ≡ [] → ⊥
given_stands None xs is e = is
given_stands (Some x) xs is e = cc

all_given : {X Y : Type 0} (f : X → Option Y) (xs : List X) → Each (λ (x : X). IsGiven (f x)) xs → filter_map f xs ≡ [] → xs ≡ []
all_given f [] all e = refl
all_given f (x ∷ xs) all e = absurd (given_stands (f x) (filter_map f xs) all.0 e)

module _ (s : Setting) where
  guard_settled : (h : History) (home : Home) (p : Numbered) (guard : Status) (sets : Bool) → (guard ≡ Maybe → sets ≡ true → IsGiven (wait_of_guard s h home.path p.promise.guard)) →
      own_unsettled s h home p guard sets ≡ [] → GuardIsSettled guard sets
  guard_settled h home p No sets blamed e = tt
  guard_settled h home p Yes sets blamed e = tt
  guard_settled h home p Maybe false blamed e = tt
  guard_settled h home p Maybe true blamed e =
      let wait = wait_of_guard s h home.path p.promise.guard in
      given_stands (option_map (blame_for p.id) wait) [] (mapped_given (blame_for p.id) wait (blamed refl refl)) e

  edits_settled : (h : History) (home : Home) (p : Numbered) (guard : Status) → EditsAreBlamed s h home p guard → edits_unsettled s h home p guard ≡ [] → EditsAreSettled s h home p guard
  edits_settled h home p No blamed e = tt
  edits_settled h home p Maybe blamed e = all_given (blame_edit (global_source h)) (unsettled_edits s h home p) blamed e
  edits_settled h home p Yes blamed e = all_given (blame_edit (global_source h)) (unsettled_edits s h home p) blamed e

  pub all_settled : (h : History) → AreBlamed s h → unsettled_promises s h ≡ [] → IsSettled s h
  all_settled [] blamed e = tt
  all_settled (Reached home p guard sets visits ∷ h) blamed e =
      let own = own_unsettled s h home p guard sets in
      let edits = edits_unsettled s h home p guard in
      let here : own ++ edits ≡ [] = none_right (unsettled_promises s h) (own ++ edits) e in (
        guard_settled h home p guard sets blamed.0 (none_left own edits here),
        edits_settled h home p guard blamed.1 (none_right own edits here),
        all_settled h blamed.2 (none_left (unsettled_promises s h) (own ++ edits) e),
      )
  all_settled (Begun path given ∷ h) blamed e = all_settled h blamed e
  all_settled (Set path name datum ∷ h) blamed e = all_settled h blamed e
  all_settled (Raised place cls status source ∷ h) blamed e = all_settled h blamed e
  all_settled (Listed i status ∷ h) blamed e = all_settled h blamed.2 e
  all_settled (Told i outcomes ∷ h) blamed e = all_settled h blamed e

pub unlisted_settled : KeysTellWorks → RaisesHaveFirst → UnsettledAreMaybe → InstancesAreKeyed → KeysAreLines → UnlistedAreSettled
unlisted_settled tell firsts traced keyed lines s walk known is none = all_settled s walk (walk_blamed s tell keyed known firsts traced lines walk is) none
