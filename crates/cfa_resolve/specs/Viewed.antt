-- A promise of a policy in a view of variables and classes, as contracts see it.
use Rattle.std.specs.Prelude.{ℕ, List, Option, Some, None, Result, Ok, Err, IfSome}
use Rattle.cfa_base.specs.declared.places.PromiseId.{PromiseId}
use Rattle.cfa_tree.specs.Plain.{plain_promise}
use Rattle.cfa_tree.specs.Tree.{PolicyTree}
use Rattle.cfa_statuses.specs.Raised.{status_in}
use Rattle.cfa_served.specs.Checked.{typed_promise_of}
use Rattle.cfa_vars.specs.Scopes.{in_scope}
use Rattle.cfa_resolve.specs.declared.instances.FoundPromise.{FoundPromise}
use Rattle.cfa_resolve.specs.declared.instances.View.{View}
use Rattle.cfa_resolve.specs.declared.instances.ResolveErr.{ResolveErr}
use Rattle.cfa_resolve.specs.declared.instances.ResolveErr.TheVariants.{TooLarge, PatternTooBig, NoMemory}
use Rattle.cfa_resolve.specs.Instances.{Reached}
use Rattle.cfa_resolve.specs.Resolution.{reached_at, IsBuiltFor}

abbrev pub reached_in : PolicyTree → FoundPromise → View → Reached
reached_in policy found view =
    reached_at policy found.id.now (in_scope view.scopes) (status_in view.statuses.now) view.path.now
    (found.promise_type, plain_promise found.promise.now)

-- the text that was refused for its size, if one was
abbrev pub too_big_in : {X : Type 0} → Result X ResolveErr → Option (List ℕ)
too_big_in (Ok x) = None
too_big_in (Err TooLarge) = None
too_big_in (Err (PatternTooBig text)) = Some text
too_big_in (Err NoMemory) = None

-- the text is one that the promise of an id builds
abbrev pub IsBuiltAt : PolicyTree → PromiseId → View → (text : List ℕ) → Type 0
IsBuiltAt policy id view text =
    IfSome (typed_promise_of policy id) (λ typed. IsBuiltFor (
    reached_at policy id (in_scope view.scopes) (status_in view.statuses.now) view.path.now typed) text)
