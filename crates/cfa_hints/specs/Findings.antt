-- Of what nothing comes: a name that is referred to and never set, a class that is asked for and never raised, a bundle
-- that is never called, and a class of the call that is never asked for. Where a finding has a place, its name stands there.
use Rattle.std.specs.Prelude.{◌≡◌, ◌⊎◌, ℕ, ◌-◌, Bool, true, false, List, [], ◌++◌, drop, Option, Some, Contains}
use Rattle.cfa_base.specs.Index.{Text, is_listed}
use Rattle.cfa_advice.specs.Sources.{line_at}
use Rattle.cfa_uses.specs.declared.uses.Mention.{Mention}
use Rattle.cfa_uses.specs.declared.uses.Uses.{Uses}
use Rattle.cfa_uses.specs.Naming.{is_pair_listed, may_be_made}
use Rattle.cfa_hints.specs.declared.idle.Finding.{Finding}
use Rattle.cfa_hints.specs.declared.idle.Finding.TheVariants.{Unset, Unraised, Uncalled, Unasked}

-- a name stands in some bytes
pub record StandsIn (bytes name : List ℕ) : Type 0 where
  pub before : List ℕ
  pub behind : List ℕ
  pub parts : bytes ≡ before ++ name ++ behind

-- in the line of a mention its name stands at the column or behind it
pub record Stands (sources : List (Text × Text)) (mention : Mention) : Type 0 where
  pub text : List ℕ
  pub listed : Contains sources (mention.source.now, text)
  pub line : List ℕ
  pub of_number : line_at text mention.line ≡ Some line
  pub in_line : StandsIn (drop (mention.col - 1) line) mention.name.now

-- a name that is meant perhaps is one of these; empty where none is alike
abbrev pub IsOneOf : List Text → Text → Type 0
IsOneOf names near = (near ≡ []) ⊎ Contains names near

-- nothing sets the variable
pub record NeverSet (uses : Uses) (mention : Mention) : Type 0 where
  pub referred : Contains uses.references.items mention
  pub unset : is_pair_listed uses.variables (mention.of.now, mention.name.now) ≡ false

-- neither the policy raises the class nor the call sets it, and no value may be its name
pub record NeverRaised (uses : Uses) (defined : List Text) (mention : Mention) (near : Text) : Type 0 where
  pub asked : Contains uses.classes.items mention
  pub unraised : is_listed uses.raised mention.name.now ≡ false
  pub undefined : is_listed defined mention.name.now ≡ false
  pub unmade : may_be_made uses.makes_names uses.values uses.frames.items mention.name.now ≡ false
  pub near_is : IsOneOf uses.raised near ⊎ IsOneOf defined near

-- no value may be the bundle's name
pub record NeverCalled (uses : Uses) (mention : Mention) : Type 0 where
  pub defined : Contains uses.bundles.items mention
  pub unmade : may_be_made uses.makes_names uses.values uses.frames.items mention.name.now ≡ false

-- no guard and no class text asks for the class
pub record NeverAsked (uses : Uses) (class near : Text) : Type 0 where
  pub unasked : is_listed uses.asked class ≡ false
  pub asks_by_name : uses.asks_freely ≡ false
  pub near_is : IsOneOf uses.asked near

abbrev pub IsTrueOf : (sources : List (Text × Text)) (uses : Uses) (defined : List Text) → Finding → Type 0
IsTrueOf sources uses defined (Unset mention near) = Stands sources mention × NeverSet uses mention
IsTrueOf sources uses defined (Unraised mention near) = Stands sources mention × NeverRaised uses defined mention near.now
IsTrueOf sources uses defined (Uncalled mention) = Stands sources mention × NeverCalled uses mention
IsTrueOf sources uses defined (Unasked class near) = NeverAsked uses class.now near.now
