-- When instances with acts are in no conflict, over the walk in which all is kept and the open walk. An instance is live where the first
-- of these visits it. A live instance restarts nothing, comes for sure at its first visit in the open walk, and none of its acts is
-- disturbed: neither by an act of another instance that the open walk visits after it, nor by a later act of its own.
use Rattle.std.specs.Prelude.{◌≡◌, ◌⊎◌, ℕ, Bool, true, false, T, List, [], ◌∷◌}
use Rattle.std.specs.List.{AllByRecursion as Each}
use Rattle.cfa_acts.specs.declared.acts.Act.{Act}
use Rattle.cfa_acts.specs.Disturbs.{disturbs}
use Rattle.cfa_acts.specs.Laws.{is_restart}
use Rattle.cfa_statuses.specs.declared.levels.Status.{Status}
use Rattle.cfa_statuses.specs.declared.levels.Status.TheVariants.{No, Yes}
use Rattle.cfa_resolve.specs.declared.instances.Instance.{Instance}
use Rattle.cfa_resolve.specs.declared.instances.Work.{Work}
use Rattle.cfa_states.specs.History.{History, Begun, Set, Raised, Reached, Listed, Told, is_named}
use Rattle.cfa_states.specs.Tellers.{acts_of}
use Rattle.cfa_conflict.specs.Conflicts.{has_acts}
use Rattle.cfa_laws.specs.Keys.{IsKeyed}

-- the work is acts, of which there may be none
abbrev pub HasActs : Work → Type 0
HasActs work = T (has_acts work)

-- whether an instance of this path and key text was listed
abbrev pub was_listed : History → (path text : List ℕ) → Bool
was_listed [] path text = false
was_listed (Listed instance status ∷ h) path text = elim (is_named path text instance) [ true ↦ true | false ↦ was_listed h path text ]
was_listed (Begun p arguments ∷ h) path text = was_listed h path text
was_listed (Set p name datum ∷ h) path text = was_listed h path text
was_listed (Raised place class status source ∷ h) path text = was_listed h path text
was_listed (Reached home promise guard sets visits ∷ h) path text = was_listed h path text
was_listed (Told instance outcomes ∷ h) path text = was_listed h path text

abbrev pub was_visited : History → Instance → Bool
was_visited h instance = was_listed h instance.path instance.text

-- the instance has acts, and the walk visits it
pub record IsLive (kept : History) (instance : Instance) : Type 0 where
  pub acts : HasActs instance.work
  pub visited : was_visited kept instance ≡ true

-- both have one path and key text
abbrev pub is_same : Instance → Instance → Bool
is_same instance other = is_named instance.path instance.text other

-- a visit of the one stands after a visit of the other
abbrev pub IsAfter : History → (later earlier : Instance) → Type 0
IsAfter [] = λ later earlier. ⊥
IsAfter (Listed instance status ∷ h) = λ later earlier. ((is_same later instance ≡ true) × (was_visited h earlier ≡ true)) ⊎ IsAfter h later earlier
IsAfter (Begun path arguments ∷ h) = IsAfter h
IsAfter (Set path name datum ∷ h) = IsAfter h
IsAfter (Raised place class status source ∷ h) = IsAfter h
IsAfter (Reached home promise guard sets visits ∷ h) = IsAfter h
IsAfter (Told instance outcomes ∷ h) = IsAfter h

-- the status of the first visit, No where there is none
abbrev pub first_status : History → Instance → Status
first_status [] instance = No
first_status (Listed other status ∷ h) instance =
    elim (was_visited h instance) [
      | true ↦ first_status h instance
      | false ↦ elim (is_same instance other) [ true ↦ status | false ↦ No ]
    ]
first_status (Begun path arguments ∷ h) instance = first_status h instance
first_status (Set path name datum ∷ h) instance = first_status h instance
first_status (Raised place class status source ∷ h) instance = first_status h instance
first_status (Reached home promise guard sets visits ∷ h) instance = first_status h instance
first_status (Told other outcomes ∷ h) instance = first_status h instance

-- none of these acts disturbs this one
abbrev pub AreQuiet : (others : List Act) → Act → Type 0
AreQuiet others act = Each (λ (other : Act). disturbs other act ≡ false) others

-- none of the later acts disturbs one of the earlier
abbrev pub AreSpared : (earlier later : List Act) → Type 0
AreSpared earlier later = Each (AreQuiet later) earlier

-- none of the acts disturbs one before it
abbrev pub SpareThemselves : List Act → Type 0
SpareThemselves [] = Unit {0}
SpareThemselves (act ∷ acts) = AreQuiet acts act × SpareThemselves acts

-- no live instance is in conflict
pub record AreFree (kept walk : History) : Type 0 where
  pub restarts : (i : Instance) → IsKeyed i → IsLive kept i → Each (λ (act : Act). is_restart act ≡ false) (acts_of i.work)
  pub sure : (i : Instance) → IsKeyed i → IsLive kept i → first_status walk i ≡ Yes
  pub spared : (i other : Instance) → IsKeyed i → IsKeyed other → IsLive kept i → is_same i other ≡ false → IsAfter walk other i →
      AreSpared (acts_of i.work) (acts_of other.work)
  pub itself : (i : Instance) → IsKeyed i → IsLive kept i → SpareThemselves (acts_of i.work)
