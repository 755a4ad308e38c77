-- Laws of what the promises of a demo resolve to, in whatever view: each counts one visit, and no act of an instance disturbs an
-- act of an instance, of the same promise or of another.
use Rattle.std.specs.Prelude.{◌≡◌, ℕ, ◌≤◌, false, List, Contains}
use Rattle.cfa_base.specs.declared.places.PromiseId.{PromiseId}
use Rattle.cfa_acts.specs.declared.acts.Act.{Act}
use Rattle.cfa_acts.specs.Disturbs.{disturbs}
use Rattle.cfa_statuses.specs.declared.levels.Status.{Status}
use Rattle.cfa_tree.specs.Tree.{PromiseTree}
use Rattle.cfa_kinds.specs.declared.kinds.PromiseType.TheVariants.{Files}
use Rattle.cfa_vars.specs.Scopes.{InScope}
use Rattle.cfa_resolve.specs.declared.instances.Instance.{Instance}
use Rattle.cfa_resolve.specs.declared.instances.Resolved.{Resolved}
use Rattle.cfa_resolve.specs.declared.instances.Work.TheVariants.{Acts}
use Rattle.cfa_resolve.specs.Resolution.{reached_at, resolution}
use Rattle.cfa_demo_laws.specs.Trees.{promise_trees, demo_tree}
use Rattle.cfa_demo_laws.specs.Laws.{most_promises}

-- a promise of the demo of so many resolves to this in some view
pub record IsOfDemo (n : ℕ) (resolved : Resolved) : Type 0 where
  pub id : PromiseId
  pub scopes : InScope
  pub statuses : List ℕ → Status
  pub path : List ℕ
  pub promise : PromiseTree
  pub stands : Contains (promise_trees n) promise
  pub is : resolved ≡ resolution (reached_at (demo_tree n) id scopes statuses path (Files, promise))

abbrev pub DemoCountsOne : Type 0
DemoCountsOne = (n : ℕ) (resolved : Resolved) → n ≤ most_promises → IsOfDemo n resolved → resolved.visits ≤ 1

-- one of the instances has this act
pub record HasAct (resolved : Resolved) (act : Act) : Type 0 where
  pub instance : Instance
  pub acts : List Act
  pub stands : Contains resolved.instances instance
  pub work_is : instance.work ≡ Acts acts
  pub is_act : Contains acts act

abbrev pub DemoNeverDisturbs : Type 0
DemoNeverDisturbs =
    (n : ℕ) (resolved other : Resolved) (earlier later : Act) → n ≤ most_promises → IsOfDemo n resolved → IsOfDemo n other →
    HasAct resolved earlier → HasAct other later → disturbs later earlier ≡ false
