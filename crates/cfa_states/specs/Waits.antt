-- What waits for a class that may be set or not. The guard of a promise may hold or not, and waits for the first such class in it,
-- in text order. Where the guard of a visited promise is set, the visit waits for the call that activated its bundle: for what the
-- first visit of this call waited for.
use Rattle.std.specs.Prelude.{ℕ, Bool, true, false, ◌&&◌, List, [], ◌∷◌, Option, Some, None, option_and_then}
use Rattle.std.specs.Str.{bytes_eq}
use Rattle.cfa_base.specs.declared.places.PromiseId.{PromiseId}
use Rattle.cfa_tree.specs.Tree.{ExprTree}
use Rattle.cfa_statuses.specs.declared.levels.Status.{Status}
use Rattle.cfa_statuses.specs.declared.levels.Status.TheVariants.{No, Maybe, Yes}
use Rattle.cfa_defines.specs.FirstMaybe.{first_maybe_of_guard}
use Rattle.cfa_resolve.specs.declared.instances.Instance.{Instance}
use Rattle.cfa_resolve.specs.declared.instances.Work.{Work}
use Rattle.cfa_resolve.specs.declared.instances.Work.TheVariants.{Acts, Call, Report}
use Rattle.cfa_resolve.specs.Resolution.{is_acting}
use Rattle.cfa_states.specs.declared.waits.Wait.{Wait}
use Rattle.cfa_states.specs.History.{History, Begun, Set, Raised, Reached, Listed, Told, mark_in, source_in}
use Rattle.cfa_states.specs.Tellers.{inner_path}
use Rattle.cfa_states.specs.Views.{Setting, status_in}

-- ---- visits

abbrev pub is_unvisited : Status → Bool
is_unvisited No = true
is_unvisited Maybe = false
is_unvisited Yes = false

-- an instance that is visited now was never visited before
abbrev pub is_first : History → Instance → Bool
is_first h instance = is_unvisited (mark_in h instance.path instance.text)

abbrev pub is_call : Work → Bool
is_call (Acts acts) = false
is_call (Call name arguments) = true
is_call (Report content) = false

-- a call that activates its bundle under this path
abbrev pub is_call_to : (path : List ℕ) → Instance → Bool
is_call_to path instance = is_call instance.work && bytes_eq (inner_path instance) path

-- ---- waits

-- a class with the promise that first raised it by its outcome
abbrev pub wait_on : (class : List ℕ) → (source : Option PromiseId) → Option Wait
wait_on class None = None
wait_on class (Some source) = Some (record { class = class; source = source })

-- for the first class of a guard that may be set or not
abbrev pub wait_of_guard : Setting → History → (path : List ℕ) → Option ExprTree → Option Wait
wait_of_guard s h path guard =
    option_and_then (λ class. wait_on class (source_in h path class)) (first_maybe_of_guard guard (status_in s h path))

abbrev mutual
  -- what the instances of the promise that was reached last in an activation wait for
  pub waits_in : Setting → History → (path : List ℕ) → Option Wait
  waits_in s [] path = None
  waits_in s (Begun p arguments ∷ h) path = elim (bytes_eq p path) [ true ↦ None | false ↦ waits_in s h path ]
  waits_in s (Reached home promise No sets visits ∷ h) path = waits_in s h path
  waits_in s (Reached home promise Maybe sets visits ∷ h) path =
      elim (is_acting promise.type && bytes_eq home.path path) [
        | true ↦ wait_of_guard s h path promise.promise.guard
        | false ↦ waits_in s h path
      ]
  waits_in s (Reached home promise Yes sets visits ∷ h) path =
      elim (is_acting promise.type && bytes_eq home.path path) [ true ↦ wait_of_call s h path | false ↦ waits_in s h path ]
  waits_in s (Set p name datum ∷ h) path = waits_in s h path
  waits_in s (Raised place class status source ∷ h) path = waits_in s h path
  waits_in s (Listed instance status ∷ h) path = waits_in s h path
  waits_in s (Told instance outcomes ∷ h) path = waits_in s h path

  -- what the first visit of the call that activates a path waits for
  pub wait_of_call : Setting → History → (path : List ℕ) → Option Wait
  wait_of_call s [] path = None
  wait_of_call s (Listed instance status ∷ h) path =
      elim (is_first h instance && is_call_to path instance) [ true ↦ waits_in s h instance.path | false ↦ wait_of_call s h path ]
  wait_of_call s (Begun p arguments ∷ h) path = wait_of_call s h path
  wait_of_call s (Set p name datum ∷ h) path = wait_of_call s h path
  wait_of_call s (Raised place class status source ∷ h) path = wait_of_call s h path
  wait_of_call s (Reached home promise guard sets visits ∷ h) path = wait_of_call s h path
  wait_of_call s (Told instance outcomes ∷ h) path = wait_of_call s h path

-- what the instances of a promise wait for that is reached now and whose guard may hold
abbrev pub waits_by : Setting → History → (path : List ℕ) → (guard : Status) → Option ExprTree → Option Wait
waits_by s h path No guard = None
waits_by s h path Maybe guard = wait_of_guard s h path guard
waits_by s h path Yes guard = wait_of_call s h path
