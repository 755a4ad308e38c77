-- What is told of an instance, and the classes that are raised for it, touch little of what is kept.
use Rattle.std.proofs.Common.{List, ◌∷◌, refl, ◌≡◌, ℕ, Bool, true, false, [], IsTrue, Some}
use Rattle.std.specs.Str.{bytes_eq}
use Rattle.cfa_outcomes.specs.declared.outcomes.Outcome.{Outcome}
use Rattle.cfa_resolve.specs.declared.instances.Instance.{Instance}
use Rattle.cfa_statuses.specs.declared.levels.Status.{Status}
use Rattle.cfa_states.specs.declared.activations.Activation.{Activation}
use Rattle.cfa_states.specs.declared.endings.Ending.{Ending}
use Rattle.cfa_states.specs.declared.states.State.{State}
use Rattle.cfa_states.specs.History.{History, Told, Event, Raised, everywhere}
use Rattle.cfa_states.specs.Kept.{Keeps, KeepsLocally, SpareShorter}
use Rattle.cfa_states.specs.Levels.{is_quiet}
use Rattle.cfa_states.specs.Passes.{classes_for, in_every_list, raised_to, raise_each, raise_lists, told}
use Rattle.cfa_states.specs.Tellers.{outcomes_in, worst_in}
use Rattle.cfa_states.specs.Views.{Setting, shared_in}
use Rattle.cfa_states.specs.lemmas.Keeping.{counts_same}
use Rattle.cfa_states.specs.lemmas.Locals.{local_same, local_raised_everywhere}
use Rattle.cfa_states.specs.lemmas.Spared.{spare_none, spare_then, spare_raised_everywhere}
use Rattle.cfa_visits.specs.Endings.{raise_ending}

pub keeps_told : (s : Setting) (st : State) (h : History) (instance : Instance) (outcomes : List Outcome) → Keeps s st h → Keeps s st (Told instance outcomes ∷ h)
unfolding shared_in
keeps_told s st h instance outcomes keeps =
    (keeps.0, (keeps.1.0, (keeps.1.1.0, (keeps.1.1.1.0, counts_same s st h (Told instance outcomes ∷ h) refl (λ _. refl) refl refl refl keeps.1.1.1.1))))

pub told_is : (instance : Instance) (ending : Ending) (its : Status) (k : History) →
    told instance (outcomes_in ending) its k ≡ raise_ending instance ending its (Told instance (outcomes_in ending) ∷ k)
unfolding told
told_is instance ending its k = refl

-- ---- what is kept

pub worst_skipped : (h : History) (instance : Instance) (path : List ℕ) → worst_in (Told instance [] ∷ h) path ≡ worst_in h path
worst_skipped h instance path = by_test (bytes_eq instance.path path) refl
  where
    by_test : (b : Bool) → bytes_eq instance.path path ≡ b → worst_in (Told instance [] ∷ h) path ≡ worst_in h path
    by_test true is = rw (is, worst_in) refl
    by_test false is = rw (is, worst_in) refl

pub local_skipped : (s : Setting) (a : Activation) (h : History) (instance : Instance) → KeepsLocally s a h → KeepsLocally s a (Told instance [] ∷ h)
local_skipped s a h instance = local_same s a h (Told instance [] ∷ h) (λ _. refl) (λ _. refl) (worst_skipped h instance a.path) refl refl

module _ (instance : Instance) (outcomes : List Outcome) (its : Status) where
  abbrev raised : List ℕ → Event
  raised class = Raised everywhere class (raised_to its (in_every_list instance outcomes class)) (Some instance.source)

  pub local_raised_each : (s : Setting) (a : Activation) (classes : List (List ℕ)) (h : History) → KeepsLocally s a h → KeepsLocally s a (raise_each instance outcomes its classes h)
  local_raised_each s a [] h keeps = keeps
  local_raised_each s a (class ∷ classes) h keeps =
      local_raised_each s a classes (raised class ∷ h)
      (local_raised_everywhere s a h class (raised_to its (in_every_list instance outcomes class)) (Some instance.source) keeps)

  pub spare_raised_each : (bound : ℕ) (classes : List (List ℕ)) (h : History) → SpareShorter bound h (raise_each instance outcomes its classes h)
  spare_raised_each bound [] h = spare_none bound h
  spare_raised_each bound (class ∷ classes) h =
      spare_then bound h (raised class ∷ h) (raise_each instance outcomes its classes (raised class ∷ h))
      (spare_raised_everywhere bound h class (raised_to its (in_every_list instance outcomes class)) (Some instance.source))
      (spare_raised_each bound classes (raised class ∷ h))

  pub behind_raised_each : (Behind : History → Type 0) → ((event : Event) (h : History) → IsTrue (is_quiet event) → Behind h → Behind (event ∷ h)) →
      (classes : List (List ℕ)) (h : History) → Behind h → Behind (raise_each instance outcomes its classes h)
  behind_raised_each Behind steady [] h stays = stays
  behind_raised_each Behind steady (class ∷ classes) h stays = behind_raised_each Behind steady classes (raised class ∷ h) (steady (raised class) h refl stays)

module _ (instance : Instance) (all : List Outcome) (its : Status) where
  pub local_raised_lists : (s : Setting) (a : Activation) (outcomes : List Outcome) (h : History) → KeepsLocally s a h → KeepsLocally s a (raise_lists instance all outcomes its h)
  local_raised_lists s a [] h keeps = keeps
  local_raised_lists s a (outcome ∷ others) h keeps =
      local_raised_lists s a others (raise_each instance all its (classes_for instance outcome) h)
      (local_raised_each instance all its s a (classes_for instance outcome) h keeps)

  pub spare_raised_lists : (bound : ℕ) (outcomes : List Outcome) (h : History) → SpareShorter bound h (raise_lists instance all outcomes its h)
  spare_raised_lists bound [] h = spare_none bound h
  spare_raised_lists bound (outcome ∷ others) h =
      let k : History = raise_each instance all its (classes_for instance outcome) h in
      spare_then bound h k (raise_lists instance all others its k)
      (spare_raised_each instance all its bound (classes_for instance outcome) h) (spare_raised_lists bound others k)

  pub behind_raised_lists : (Behind : History → Type 0) → ((event : Event) (h : History) → IsTrue (is_quiet event) → Behind h → Behind (event ∷ h)) →
      (outcomes : List Outcome) (h : History) → Behind h → Behind (raise_lists instance all outcomes its h)
  behind_raised_lists Behind steady [] h stays = stays
  behind_raised_lists Behind steady (outcome ∷ others) h stays =
      behind_raised_lists Behind steady others (raise_each instance all its (classes_for instance outcome) h)
      (behind_raised_each instance all its Behind steady (classes_for instance outcome) h stays)
