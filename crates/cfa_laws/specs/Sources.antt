-- What may be so or not waits for a class that may be set or not: a class that a classes promise raises for the first such class of its
-- expressions, and what is unsettled in an edit bundle for a global class, to which it goes back.
use Rattle.std.specs.Prelude.{◌≡◌, ℕ, List, Option, Some}
use Rattle.std.specs.List.{AllByRecursion as Each}
use Rattle.cfa_statuses.specs.declared.levels.Status.{Status}
use Rattle.cfa_statuses.specs.declared.levels.Status.TheVariants.{Maybe}
use Rattle.cfa_defines.specs.ClassPromises.{Raise, raises_of}
use Rattle.cfa_resolve.specs.Instances.{Reached}
use Rattle.cfa_resolve.specs.Resolution.{resolution}
use Rattle.cfa_scripts.specs.declared.blaming.Unsettled.{Unsettled}
use Rattle.cfa_tree.specs.Tree.{PromiseTree}
use Rattle.cfa_vars.specs.Expansion.{Chosen}
use Rattle.cfa_vars.specs.Scopes.{InScope}

-- a class that may be set or not is the first of an expression
abbrev pub IsFirst : (List ℕ → Status) → Option (List ℕ) → Type 0
IsFirst status first = (c : List ℕ) × (first ≡ Some c) × (status c ≡ Maybe)

-- a class that is raised to Maybe waits for such a class
abbrev pub RaiseHasFirst : (List ℕ → Status) → Raise → Type 0
RaiseHasFirst status raise = raise.1.0 ≡ Maybe → IsFirst status raise.1.1

abbrev pub RaisesHaveFirst : Type 0
RaisesHaveFirst =
    (status : List ℕ → Status) (scopes : InScope) (promise : PromiseTree) (choices : Option (List Chosen)) →
    Each (RaiseHasFirst status) (raises_of status scopes promise choices)

-- what is unsettled in an edit bundle goes back to a global class that may be set or not
abbrev pub IsMaybe : (List ℕ → Status) → Unsettled → Type 0
IsMaybe status unsettled = status unsettled.origin ≡ Maybe

abbrev pub UnsettledAreMaybe : Type 0
UnsettledAreMaybe = (r : Reached) → Each (IsMaybe r.statuses) (resolution r).unsettled
