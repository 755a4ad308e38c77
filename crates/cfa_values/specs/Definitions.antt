-- What a policy defines, as far as values refer to it: its bundles and bodies, each by its first definition of a name, and the
-- sequence of bundles that are activated.
use Rattle.std.specs.Prelude.{ℕ, Bool, true, false, ◌&&◌, List, find, Option, Some, None}
use Rattle.std.specs.List.{list_any}
use Rattle.std.specs.Str.{bytes_eq}
use Rattle.cfa_base.specs.declared.places.Place.{Place}
use Rattle.cfa_kinds.specs.declared.kinds.BundleType.{BundleType}
use Rattle.cfa_kinds.specs.declared.kinds.BundleType.TheVariants.{Agent, Common, EditLine}

-- a bundle by its type, where that is one of the profile, its name with its place, and how many parameters it has
pub record BundleHead : Type 0 where
  pub type : Option BundleType
  pub name : List ℕ
  pub params : ℕ
  pub place : Place

-- a body by the word of its type, its name, and how many parameters it has
pub record BodyHead : Type 0 where
  pub type_word : List ℕ
  pub name : List ℕ
  pub params : ℕ

-- ---- what is defined

pub record Definitions : Type 0 where
  pub bundles : List BundleHead
  pub bodies : List BodyHead
  pub sequence : List (List ℕ)

-- the first bundle of a name
abbrev pub bundle_named : Definitions → List ℕ → Option BundleHead
bundle_named definitions name = find (λ b. bytes_eq name b.name) definitions.bundles

-- the first body of a type and name
abbrev pub body_named : Definitions → List ℕ → List ℕ → Option BodyHead
body_named definitions type_name name = find (λ b. bytes_eq type_name b.type_word && bytes_eq name b.name) definitions.bodies

abbrev pub is_one_of : List ℕ → List (List ℕ) → Bool
is_one_of name names = list_any (λ other. bytes_eq name other) names

-- a common bundle is shared, and so is an agent bundle where it is in the sequence
abbrev pub shares : (in_sequence : Bool) → Option BundleType → Bool
shares in_sequence None = false
shares in_sequence (Some Common) = true
shares in_sequence (Some Agent) = in_sequence
shares in_sequence (Some EditLine) = false

abbrev pub shares_head : (in_sequence : Bool) → Option BundleHead → Bool
shares_head in_sequence None = false
shares_head in_sequence (Some b) = shares in_sequence b.type

-- whether the variables of a bundle of this name may be referred to from everywhere
abbrev pub is_shared : Definitions → List ℕ → Bool
is_shared definitions name = shares_head (is_one_of name definitions.sequence) (bundle_named definitions name)

abbrev pub is_agent : Option BundleType → Bool
is_agent None = false
is_agent (Some Agent) = true
is_agent (Some Common) = false
is_agent (Some EditLine) = false

abbrev pub is_agent_head : Option BundleHead → Bool
is_agent_head None = false
is_agent_head (Some b) = is_agent b.type
