-- Instances of a policy are told apart by their paths and key texts. A key text tells the acts of its instance, and whether it has
-- acts, is a call or is a report, where its bundle is a word and its acts are such as promises give.
use Rattle.std.specs.Prelude.{◌≡◌}
use Rattle.cfa_laws.specs.Keys.{IsKeyed}
use Rattle.cfa_resolve.specs.declared.instances.Instance.{Instance}
use Rattle.cfa_resolve.specs.declared.instances.Work.{Work}
use Rattle.cfa_resolve.specs.declared.instances.Work.TheVariants.{Acts, Call, Report}

-- both have the same acts, or both are calls, or both are reports
abbrev pub AreAlike : Work → Work → Type 0
AreAlike (Acts acts) (Acts others) = acts ≡ others
AreAlike (Acts acts) (Call name arguments) = ⊥
AreAlike (Acts acts) (Report content) = ⊥
AreAlike (Call name arguments) (Acts others) = ⊥
AreAlike (Call name arguments) (Call other given) = Unit {0}
AreAlike (Call name arguments) (Report content) = ⊥
AreAlike (Report content) (Acts others) = ⊥
AreAlike (Report content) (Call name arguments) = ⊥
AreAlike (Report content) (Report other) = Unit {0}

-- equal key texts are those of like works
abbrev pub KeysTellWorks : Type 0
KeysTellWorks =
    (instance other : Instance) → IsKeyed instance → IsKeyed other → instance.text ≡ other.text → AreAlike instance.work other.work
