-- What an object of the outside shows: what it tells, if it tells, and how often a call on it failed.
use Rattle.std.specs.Prelude.{◌≡◌, ℕ, ◌≤◌, Option, option_map}
use Rattle.cfa_base.specs.Causes.{Rose}

pub record Shown (T : Type 0) : Type 0 where
  pub told : Option T
  pub faults : ℕ

-- it tells what follows from what it told, and its count of faults stands
abbrev pub followed : {T : Type 0} → (T → T) → Shown T → Shown T
followed f shown = record { told = option_map f shown.told; faults = shown.faults }

abbrev pub Follows : {T : Type 0} → (T → T) → (before after : Shown T) → Type 0
Follows f before after = after ≡ followed f before

-- it is as it was
abbrev pub Untouched : {T : Type 0} → (before after : Shown T) → Type 0
Untouched before after = after ≡ before

-- a call on it failed: it tells what follows from what it told, and its count of faults rose and didn't fall
pub record HasFailed {T : Type 0} (f : T → T) (before after : Shown T) : Type 0 where
  pub told : after.told ≡ option_map f before.told
  pub rose : Rose before.faults after.faults
  pub later : before.faults ≤ after.faults

-- after want of memory it tells the same; its count of faults is left open, and never falls
pub record IsLeft {T : Type 0} (before after : Shown T) : Type 0 where
  pub told : after.told ≡ before.told
  pub later : before.faults ≤ after.faults
