-- How statuses of classes in a run and in the open walk lie together: what is decided in the walk is so in the run, and in the run
-- nothing is undecided. What promises make of statuses that lie together lies together too: the classes that a classes promise
-- raises, and the instances that a promise resolves to where nothing is unsettled in its edit bundle.
use Rattle.std.specs.Prelude.{◌≡◌, ℕ, List, [], ◌∷◌, Option}
use Rattle.cfa_statuses.specs.declared.levels.Status.{Status}
use Rattle.cfa_statuses.specs.declared.levels.Status.TheVariants.{No, Maybe, Yes}
use Rattle.cfa_defines.specs.ClassPromises.{Raise, raises_of}
use Rattle.cfa_resolve.specs.Instances.{Reached}
use Rattle.cfa_resolve.specs.Resolution.{resolution}
use Rattle.cfa_tree.specs.Tree.{PromiseTree}
use Rattle.cfa_vars.specs.Expansion.{Chosen}
use Rattle.cfa_vars.specs.Scopes.{InScope}

-- the run's status, and the walk's
pub data Within : Status → Status → Type 0 where
  no_no : Within No No
  no_maybe : Within No Maybe
  yes_maybe : Within Yes Maybe
  yes_yes : Within Yes Yes

abbrev pub AllWithin : (run walk : List ℕ → Status) → Type 0
AllWithin run walk = (class : List ℕ) → Within (run class) (walk class)

-- the same classes, to statuses that lie together
abbrev pub RaisesAlike : List Raise → List Raise → Type 0
RaisesAlike [] [] = Unit {0}
RaisesAlike [] (w ∷ ws) = ⊥
RaisesAlike (r ∷ rs) [] = ⊥
RaisesAlike (r ∷ rs) (w ∷ ws) = (r.0 ≡ w.0) × Within r.1.0 w.1.0 × RaisesAlike rs ws

abbrev pub RaisesLieTogether : Type 0
RaisesLieTogether =
    (run walk : List ℕ → Status) → AllWithin run walk → (scopes : InScope) (promise : PromiseTree) (choices : Option (List Chosen)) →
    RaisesAlike (raises_of run scopes promise choices) (raises_of walk scopes promise choices)

-- the promise with these classes
abbrev pub under : Reached → (List ℕ → Status) → Reached
under r statuses = record r { statuses = statuses }

abbrev pub InstancesAreSame : Type 0
InstancesAreSame =
    (r : Reached) (run walk : List ℕ → Status) → AllWithin run walk →
    (resolution (under r walk)).unsettled ≡ [] → (resolution (under r run)).instances ≡ (resolution (under r walk)).instances
