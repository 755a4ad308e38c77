-- Where a run has locks, an instance is skipped whose lock was last set too few minutes ago, and one that has ended sets its lock.
use Rattle.std.specs.Prelude.{ℕ, ◌≡◌, Bool, true, false, not, ◌&&◌, List, [], ◌∷◌, Option, Some, None, Result, IfOk, OnOk, IfErr, IfSome}
use Rattle.std.specs.FinMap as finite
use Rattle.cfa_base.specs.Shown.{Shown, Untouched}
use Rattle.cfa_outside.specs.declared.worlds.World.{World}
use Rattle.cfa_outside.specs.declared.sites.Change.TheVariants.{PutLock}
use Rattle.cfa_outside.specs.declared.sites.Entry.{Entry}
use Rattle.cfa_outside.specs.declared.sites.Entry.TheVariants.{Did}
use Rattle.cfa_outside.specs.Sites.{Told}
use Rattle.cfa_locks.specs.Locks.{key_of, is_due}
use Rattle.cfa_output.specs.declared.ends.Stop.{Stop}
use Rattle.cfa_resolve.specs.declared.instances.Instance.{Instance}
use Rattle.cfa_agent.specs.Actuating.{StopsBySite}

abbrev pub is_too_early : (moment : ℕ) → Instance → (last : Option ℕ) → Bool
is_too_early moment instance None = false
is_too_early moment instance (Some last) = not (is_due last moment instance.elapsed)

abbrev pub is_skipped : (moment : ℕ) → (has_locks : Bool) → World → Instance → Bool
is_skipped moment has_locks world instance =
    has_locks && is_too_early moment instance (finite.get world.locks (key_of instance.text))

abbrev pub lock_entries : (moment : ℕ) → (has_locks : Bool) → Instance → List Entry
lock_entries moment false instance = []
lock_entries moment true instance = Did (PutLock (key_of instance.text) moment) ∷ []

-- ---- on a site

-- an instance is skipped or not as its world says, and the site is as it was; else a call on the site failed
pub record Skips (moment : ℕ) (has_locks : Bool) (instance : Instance) (before after : Shown Told) (result : Result Bool Stop) : Type 0 where
  pub answer : IfOk result (λ skipped. IfSome before.told (λ t. skipped ≡ is_skipped moment has_locks t.world instance))
  pub untouched : OnOk result (Untouched before after)
  pub stopped : IfErr result (StopsBySite before after)
