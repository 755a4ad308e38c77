-- Of the code alone: what the parts of a policy give to what is collected from the whole, what is noted of the calls that lie
-- on a cycle, and what holds where the patterns of a policy weren't all built.
use Rattle.std.specs.Prelude.{ℕ, List, [], ◌∷◌, ◌++◌, length, Option, Some, None, ◌≡◌, false, All, ⊤}
use Rattle.cfa_tree.specs.Tree.{PromiseTree, NamedTree, BlockTree, bundle, body, PolicyTree}
use Rattle.cfa_base.specs.declared.patterns.How.{How}
use Rattle.cfa_base.specs.declared.patterns.How.TheVariants.{Whole, Part}
use Rattle.cfa_kinds.specs.declared.kinds.PromiseType.{PromiseType}
use Rattle.cfa_kinds.specs.declared.kinds.PromiseType.TheVariants as promises
use Rattle.cfa_schema.specs.declared.patterns.KnownPattern.{KnownPattern as FoundPattern}
use Rattle.cfa_kinds.specs.Kinds.{bundle_type}
use Rattle.cfa_values.specs.Definitions.{BundleHead, BodyHead, Definitions}
use Rattle.cfa_schema.specs.Valid.{KnownPattern, pattern_at, IsPattern, IsFirstBad}
use Rattle.cfa_base.specs.declared.places.Place.{Place}
use Rattle.cfa_values.specs.declared.refusals.Refusal.{Refusal}
use Rattle.cfa_calls.specs.Cycles.{Call, IsFirstOnCycle, NoneOnCycle}
use Rattle.cfa_values.specs.Refusals.{refusal, sooner}
use Rattle.cfa_base.specs.Patterns.{is_pattern}
use Rattle.cfa_values.specs.declared.refusals.Code.TheVariants.{CallCycle, BadPattern}
use Rattle.cfa_schema.specs.declared.errors.SchemaErr.{SchemaErr}
use Rattle.cfa_schema.specs.declared.errors.SchemaErr.TheVariants.{Refused, PatternTooBig, NoMemory}

-- ---- what is defined

abbrev pub bundle_head_of : (type_name name : NamedTree) → (params : List NamedTree) → BundleHead
bundle_head_of type_name name params = record { type = bundle_type type_name.name; name = name.name; params = length params; place = name.place }

abbrev pub body_head_of : (type_name name : NamedTree) → (params : List NamedTree) → BodyHead
body_head_of type_name name params = record { type_word = type_name.name; name = name.name; params = length params }

-- what is defined with one block more
abbrev pub with_block : Definitions → BlockTree → Definitions
with_block definitions (bundle type_name name params sections place) = record definitions { bundles = definitions.bundles ++ bundle_head_of type_name name params ∷ [] }
with_block definitions (body type_name name params attributes place) = record definitions { bodies = definitions.bodies ++ body_head_of type_name name params ∷ [] }

abbrev pub with_blocks : Definitions → PolicyTree → Definitions
with_blocks definitions [] = definitions
with_blocks definitions (b ∷ rest) = with_blocks (with_block definitions b) rest

-- ---- patterns

abbrev pub seen_pattern : FoundPattern → KnownPattern
seen_pattern p = record { how = p.how; text = p.text.now; place = p.place }

-- how the promisers of a type of promises match, where they are patterns
abbrev pub promiser_how : Option PromiseType → Option How
promiser_how None = None
promiser_how (Some promises.DeleteLines) = Some Whole
promiser_how (Some promises.FieldEdits) = Some Whole
promiser_how (Some promises.ReplacePatterns) = Some Part
promiser_how (Some type) = None

abbrev pub pattern_of_promiser : How → PromiseTree → List KnownPattern
pattern_of_promiser how p = pattern_at how p.place p.promiser

pub data NotesCycle (calls : List Call) (before : Option Refusal) : Option Refusal → Type 0 where
  no_cycle : NoneOnCycle calls → NotesCycle calls before before
  first_cycle : (place : Place) → IsFirstOnCycle calls place → NotesCycle calls before (sooner before (refusal CallCycle place))

abbrev pub IfRefused : SchemaErr → (Refusal → Type 0) → Type 0
IfRefused (Refused r) P = P r
IfRefused (PatternTooBig text) P = ⊤
IfRefused NoMemory P = ⊤

-- this is no pattern, and it is refused at its place
pub record IsBad (p : KnownPattern) (r : Refusal) : Type 0 where
  pub bad : is_pattern p.how p.text ≡ false
  pub is : r ≡ refusal BadPattern p.place

-- the first of these that is no pattern is refused at its place
pub record HasFirstBad (patterns : List KnownPattern) (r : Refusal) : Type 0 where
  pub pattern : KnownPattern
  pub first : IsFirstBad patterns pattern
  pub is : r ≡ refusal BadPattern pattern.place

-- this is a pattern, of this text
pub record IsRefusedAs (p : KnownPattern) (t : List ℕ) : Type 0 where
  pub reads : IsPattern p
  pub text : p.text ≡ t

-- one of these has this text; it and all before it are patterns
pub record HasRefused (patterns : List KnownPattern) (t : List ℕ) : Type 0 where
  pub pattern : KnownPattern
  pub before : List KnownPattern
  pub after : List KnownPattern
  pub stands : patterns ≡ before ++ pattern ∷ after
  pub good : All IsPattern before
  pub reads : IsPattern pattern
  pub text : pattern.text ≡ t
