-- What a decision on a site answers, and what it leaves the site to show.
use Rattle.std.specs.Prelude.{◌≡◌, [], ◌∷◌, IfSome, Result, Ok, Err}
use Rattle.cfa_base.specs.Shown.{Shown, Untouched, HasFailed, IsLeft}
use Rattle.cfa_base.specs.declared.want_of_memory.NoMemory.{NoMemory}
use Rattle.cfa_outside.specs.declared.sites.Entry.TheVariants.{Refused}
use Rattle.cfa_outside.specs.Sites.{Told, adds}
use Rattle.cfa_acts.specs.declared.acts.Act.{Act}
use Rattle.cfa_acts.specs.declared.acts.Reason.TheVariants as reason
use Rattle.cfa_acts.specs.declared.acts.Decision.{Decision}
use Rattle.cfa_acts.specs.declared.acts.Decision.TheVariants.{Fail, Fault}
use Rattle.cfa_acts.specs.Acts.{decision, NeedFits}

-- the decision that the world determines, and the site is as it was
pub record IsFound (act : Act) (answer : Decision) (before after : Shown Told) : Type 0 where
  pub exact : IfSome before.told (λ t. answer ≡ decision act t.world)
  pub fits : IfSome before.told (λ t. NeedFits answer t.world)
  pub shown : Untouched before after

-- a fault tells the call of the site that failed; no act fails for the reason of a fault
abbrev pub Answers : Act → Decision → (before after : Shown Told) → Type 0
Answers act (Fault call) before after = HasFailed (adds (Refused call ∷ [])) before after
Answers act (Fail reason.Fault) before after = ⊥
Answers act answer before after = IsFound act answer before after

-- want of memory leaves what the site tells
abbrev pub Decides : Act → (before after : Shown Told) → Result Decision NoMemory → Type 0
Decides act before after (Ok answer) = Answers act answer before after
Decides act before after (Err _) = IsLeft before after
