-- Instances of a policy are told apart by their paths and key texts. A key text tells the acts of its instance, and whether it has
-- acts, is a call or is a report, where its bundle is a word and its acts are such as promises give: a script is one in order,
-- and a mode has four octal digits.
use Rattle.std.specs.Prelude.{◌≡◌, ◌≢◌, ℕ, ◌^◌, ◌<◌, List, All, Option, Some, None, codes}
use Rattle.std.specs.List.{AllByRecursion as Each}
use Rattle.cfa_base.specs.declared.places.PromiseId.{PromiseId}
use Rattle.cfa_edits.specs.Scripts.{AreEdits}
use Rattle.cfa_acts.specs.declared.acts.Act.{Act}
use Rattle.cfa_acts.specs.declared.acts.Act.TheVariants.{Edit, Perms}
use Rattle.cfa_bodies.specs.Bodies.{name_given}
use Rattle.cfa_tree.specs.Tree.{PromiseTree, ValueTree}
use Rattle.cfa_values.specs.Attributes.{value_of}
use Rattle.cfa_resolve.specs.declared.instances.Instance.{Instance}
use Rattle.cfa_resolve.specs.declared.instances.Work.{Work}
use Rattle.cfa_resolve.specs.declared.instances.Work.TheVariants.{Acts, Call, Report}
use Rattle.cfa_resolve.specs.Instances.{Reached}
use Rattle.cfa_resolve.specs.KeyTexts.{key_text}
use Rattle.cfa_resolve.specs.Resolution.{resolution}

-- four octal digits
abbrev pub IsMode : Option ℕ → Type 0
IsMode None = Unit {0}
IsMode (Some mode) = mode < 4096

-- an act as promises give it
abbrev pub IsGiven : Act → Type 0
IsGiven (Edit path script) = AreEdits script
IsGiven (Perms path mode owners groups) = IsMode mode
IsGiven _ = Unit {0}

-- the acts of a work are such
abbrev pub AreGiven : Work → Type 0
AreGiven (Acts acts) = All IsGiven acts
AreGiven (Call name arguments) = Unit {0}
AreGiven (Report content) = Unit {0}

-- no semicolon and no newline stands in the name
pub record IsPlain (name : List ℕ) : Type 0 where
  pub no_semicolon : All (λ (byte : ℕ). byte ≢ 59) name
  pub no_newline : All (λ (byte : ℕ). byte ≢ 10) name

-- the id of a promise in a bundle with such a name
pub record IsPlainId (id : PromiseId) : Type 0 where
  pub bundle : IsPlain id.bundle
  pub number : id.number < 2 ^ 64

-- the instance has the key text of what it is
pub record IsKeyed (instance : Instance) : Type 0 where
  pub promiser : List ℕ
  pub source : IsPlainId instance.source
  pub acts : AreGiven instance.work
  pub text :
      instance.text
      ≡ key_text instance.source promiser instance.work instance.kept instance.repaired instance.failed instance.elapsed

-- an instance of a path
pub record IsResolved (home : List ℕ) (instance : Instance) : Type 0 where
  pub path : instance.path ≡ home
  pub key : IsKeyed instance

-- the instances of a promise in a bundle with such a name have the path of its activation, and key texts
abbrev pub InstancesAreKeyed : Type 0
InstancesAreKeyed = (r : Reached) → IsPlainId r.id → Each (IsResolved r.path) (resolution r).instances

-- ---- key texts as lines

-- a value of `usebundle` names its bundle without a newline
abbrev pub HasPlainCall : PromiseTree → Type 0
HasPlainCall promise =
    (value : ValueTree) → value_of (codes "usebundle") promise.attributes ≡ Some value → All (λ (byte : ℕ). byte ≢ 10) (name_given value)

-- a key text is one line
abbrev pub IsLine : Instance → Type 0
IsLine instance = All (λ (byte : ℕ). byte ≢ 10) instance.text

abbrev pub KeysAreLines : Type 0
KeysAreLines = (r : Reached) → IsPlainId r.id → HasPlainCall r.promise → Each IsLine (resolution r).instances
