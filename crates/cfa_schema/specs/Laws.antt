-- A policy that isn't valid has one first refusal, and a valid one has none. Each body and bundle that a valid policy names is
-- there, of the type that is asked for, with as many parameters as it is given, and no chain of its calls goes on for long. The
-- list of the ids of its promises has those that are found. In a policy that was read from its files the names are words, and
-- the lines are counted from 1.
use Rattle.std.specs.Prelude.{◌≡◌, ◌+◌, ◌≤◌, ◌∷◌, length, ℕ, List, [], All, Option, Some, map, IsTrue}
use Rattle.std.specs.List.{Contains, filter_map, flat_map}
use Rattle.cfa_base.specs.declared.limits.TheConstants.{MOST_SOURCE_BYTES}
use Rattle.cfa_base.specs.declared.places.Place.{Place}
use Rattle.cfa_base.specs.Lexing.{is_word}
use Rattle.cfa_tree.specs.Tree.{ValueTree, text, word, call, ValueTrees, AttributeTree, PromiseTree, SectionTree, NamedTree, BlockTree, bundle, body, PolicyTree}
use Rattle.cfa_kinds.specs.declared.kinds.BundleType.{BundleType}
use Rattle.cfa_kinds.specs.declared.kinds.BundleType.TheVariants as bundles
use Rattle.cfa_kinds.specs.declared.kinds.PromiseType.{PromiseType}
use Rattle.cfa_kinds.specs.declared.kinds.BodyType.{BodyType}
use Rattle.cfa_kinds.specs.declared.kinds.Kind.{Kind}
use Rattle.cfa_kinds.specs.declared.kinds.Kind.TheVariants as kinds
use Rattle.cfa_kinds.specs.Kinds.{bundle_type, promise_type, body_type, body_word, promise_attribute, body_attribute}
use Rattle.cfa_values.specs.declared.refusals.Refusal.{Refusal}
use Rattle.cfa_values.specs.Scope.{in_bundle, in_body}
use Rattle.cfa_values.specs.Definitions.{BundleHead, BodyHead, bundle_named, body_named}
use Rattle.cfa_values.specs.Values.{Setting, is_known, name_in, value_count}
use Rattle.cfa_values.specs.Attributes.{attribute_refusals}
use Rattle.cfa_base.specs.declared.places.PromiseId.{PromiseId}
use Rattle.cfa_served.specs.Checked.{promises_of, promise_of, typed_promise_of, promise_ids_of}
use Rattle.cfa_served.specs.Control.{sequence_of}
use Rattle.cfa_schema.specs.Defined.{definitions_of}
use Rattle.cfa_served.specs.Served.{bundle_of, common_bundles_of}
use Rattle.cfa_schema.specs.Sourced.{IsSourced}
use Rattle.cfa_schema.specs.Valid.{Valid, FirstRefusal, bundle_name, calls_in_block, calls_of}
use Rattle.cfa_calls.specs.Cycles.{Call}

abbrev pub RefusalIsOne : Type 0
RefusalIsOne = (policy : PolicyTree) (r s : Refusal) → FirstRefusal policy r → FirstRefusal policy s → r ≡ s

abbrev pub NeverBoth : Type 0
NeverBoth = (policy : PolicyTree) (r : Refusal) → Valid policy → FirstRefusal policy r → ⊥

-- a promise of a type in a bundle of a policy
pub record IsPromiseIn (policy : PolicyTree) (type_name name : NamedTree) (type : PromiseType) (p : PromiseTree) : Type 0 where
  pub params : List NamedTree
  pub sections : List SectionTree
  pub place : Place
  pub section : SectionTree
  pub within : BundleType
  pub is_block : Contains policy (bundle type_name name params sections place)
  pub is_section : Contains sections section
  pub is_promise : Contains section.promises p
  pub bundle_is : bundle_type type_name.name ≡ Some within
  pub type_is : promise_type section.kind ≡ Some type

-- an attribute that stands in a policy, in a promise or in a body, with where it stands and the table of its type
pub data Stands (policy : PolicyTree) : Setting → (List ℕ → Option Kind) → AttributeTree → Type 0 where
  in_promise : {type_name name : NamedTree} {type : PromiseType} {p : PromiseTree} {a : AttributeTree} →
      IsPromiseIn policy type_name name type p → Contains p.attributes a →
      Stands policy (record { definitions = definitions_of policy; home = in_bundle name.name }) (promise_attribute type) a
  of_body : {type_name name : NamedTree} {params : List NamedTree} {attributes : List AttributeTree} {place : Place} {type : BodyType} {a : AttributeTree} →
      Contains policy (body type_name name params attributes place) → body_type type_name.name ≡ Some type → Contains attributes a →
      Stands policy (record { definitions = definitions_of policy; home = in_body (map name_in params) }) (body_attribute type) a

-- a value that names a body or bundle, and gives it so many arguments
pub data Names : ValueTree → List ℕ → ℕ → Type 0 where
  by_word : {name : List ℕ} {place : Place} → Names (word name place) name 0
  by_call : {name : List ℕ} {arguments : ValueTrees} {place : Place} → Names (call name arguments place) name (value_count arguments)

-- a value of `usebundle` that names a bundle: it may also be a text that is known before the run, without arguments
pub data NamesBundle : ValueTree → List ℕ → ℕ → Type 0 where
  by_name : {v : ValueTree} {name : List ℕ} {count : ℕ} → Names v name count → NamesBundle v name count
  by_text : {content : List ℕ} {place : Place} → IsTrue (is_known content) → NamesBundle (text content place) content 0

abbrev pub NothingIsRefused : Type 0
NothingIsRefused =
    (policy : PolicyTree) (s : Setting) (table : List ℕ → Option Kind) (a : AttributeTree) →
    Valid policy → Stands policy s table a → attribute_refusals s table a ≡ []

abbrev pub NamedBodyIsThere : Type 0
NamedBodyIsThere =
    (policy : PolicyTree) (s : Setting) (table : List ℕ → Option Kind) (a : AttributeTree) (type : BodyType) (name : List ℕ) (count : ℕ) →
    Valid policy → Stands policy s table a → table a.name ≡ Some (kinds.BodyOf type) → Names a.value name count →
    (b : BodyHead) × (body_named s.definitions (body_word type) name ≡ Some b) × (b.params ≡ count)

abbrev pub EditBundleIsThere : Type 0
EditBundleIsThere =
    (policy : PolicyTree) (s : Setting) (table : List ℕ → Option Kind) (a : AttributeTree) (name : List ℕ) (count : ℕ) →
    Valid policy → Stands policy s table a → table a.name ≡ Some kinds.EditBundle → Names a.value name count →
    (b : BundleHead) × (bundle_named s.definitions name ≡ Some b) × (b.type ≡ Some bundles.EditLine) × (b.params ≡ count)

abbrev pub AgentBundleIsThere : Type 0
AgentBundleIsThere =
    (policy : PolicyTree) (s : Setting) (table : List ℕ → Option Kind) (a : AttributeTree) (name : List ℕ) (count : ℕ) →
    Valid policy → Stands policy s table a → table a.name ≡ Some kinds.AgentBundle → NamesBundle a.value name count →
    (b : BundleHead) × (bundle_named s.definitions name ≡ Some b) × (b.type ≡ Some bundles.Agent) × (b.params ≡ count)

-- a chain of calls: each is made by the bundle that the one before it calls
pub data IsChain (calls : List Call) : List Call → Type 0 where
  no_call : IsChain calls []
  one_call : {c : Call} → Contains calls c → IsChain calls (c ∷ [])
  more_calls : {c d : Call} {rest : List Call} → Contains calls c → c.callee ≡ d.caller → IsChain calls (d ∷ rest) → IsChain calls (c ∷ d ∷ rest)

-- in a valid policy each bundle makes its calls
abbrev pub EachBundleCalls : Type 0
EachBundleCalls = (policy : PolicyTree) → Valid policy → calls_of policy ≡ flat_map calls_in_block policy

-- no chain of calls of a valid policy is longer than the number of its bundles
abbrev pub ChainsAreShort : Type 0
ChainsAreShort =
    (policy : PolicyTree) (chain : List Call) → Valid policy → IsChain (calls_of policy) chain →
    length chain ≤ length (filter_map bundle_name policy)

-- each id of the list of a valid policy is found, with its type
abbrev pub ListedIdsAreFound : Type 0
ListedIdsAreFound =
    (policy : PolicyTree) (id : PromiseId) → Valid policy → Contains (promise_ids_of policy) id →
    (found : PromiseType × PromiseTree) × (typed_promise_of policy id ≡ Some found) × (promise_of policy id ≡ Some found.1)

-- each id that is found is in the list
abbrev pub FoundIdsAreListed : Type 0
FoundIdsAreListed =
    (policy : PolicyTree) (id : PromiseId) (p : PromiseTree) → promise_of policy id ≡ Some p → Contains (promise_ids_of policy) id

-- ---- names and lines

abbrev pub IsWord : List ℕ → Type 0
IsWord name = IsTrue (is_word name)

-- a word holds no newline
abbrev pub WordsLackNewlines : Type 0
WordsLackNewlines = (name : List ℕ) → IsWord name → Contains name 10 → ⊥

-- the name of each bundle of a policy that was read is a word
abbrev pub NamesAreWords : Type 0
NamesAreWords =
    (policy : PolicyTree) (type_name name : NamedTree) (params : List NamedTree) (sections : List SectionTree) (place : Place) →
    IsSourced policy → Contains policy (bundle type_name name params sections place) → IsWord name.name

-- the parameters of such a bundle are words
abbrev pub ParamsAreWords : Type 0
ParamsAreWords =
    (policy : PolicyTree) (type_name name : NamedTree) (params : List NamedTree) (sections : List SectionTree) (place : Place) →
    IsSourced policy → Contains policy (bundle type_name name params sections place) → All (λ param. IsWord param.name) params

-- each of its promises stands on a line, which is counted from 1
abbrev pub LinesAreCounts : Type 0
LinesAreCounts =
    (policy : PolicyTree) (type_name name : NamedTree) (params : List NamedTree) (sections : List SectionTree) (place : Place)
    (section : SectionTree) (p : PromiseTree) →
    IsSourced policy → Contains policy (bundle type_name name params sections place) →
    Contains sections section → Contains section.promises p → 1 ≤ p.place.line

-- a line is numbered by no more than the bytes of the longest file, and one
abbrev pub LinesAreFew : Type 0
LinesAreFew =
    (policy : PolicyTree) (type_name name : NamedTree) (params : List NamedTree) (sections : List SectionTree) (place : Place)
    (section : SectionTree) (p : PromiseTree) →
    IsSourced policy → Contains policy (bundle type_name name params sections place) →
    Contains sections section → Contains section.promises p → p.place.line ≤ MOST_SOURCE_BYTES + 1

-- a bundle has no more promises than the longest file has bytes
abbrev pub PromisesAreFew : Type 0
PromisesAreFew =
    (policy : PolicyTree) (type_name name : NamedTree) (params : List NamedTree) (sections : List SectionTree) (place : Place) →
    IsSourced policy → Contains policy (bundle type_name name params sections place) →
    length (flat_map promises_of sections) ≤ MOST_SOURCE_BYTES

-- ---- what is served

-- a bundle that is found stands in the policy
abbrev pub NamedBundleStands : Type 0
NamedBundleStands =
    (policy : PolicyTree) (name : List ℕ) (block : BlockTree) → bundle_of policy name ≡ Some block → Contains policy block

-- each common bundle stands in it
abbrev pub CommonBundlesStand : Type 0
CommonBundlesStand = (policy : PolicyTree) → All (Contains policy) (common_bundles_of policy)

-- a bundle of a policy that was read is found by a word alone
abbrev pub NamedBundleIsWord : Type 0
NamedBundleIsWord =
    (policy : PolicyTree) (name : List ℕ) (block : BlockTree) → IsSourced policy → bundle_of policy name ≡ Some block → IsWord name

abbrev pub HasWordName : BlockTree → Type 0
HasWordName (bundle type_name name params sections place) = IsWord name.name
HasWordName (body type_name name params attributes place) = IsWord name.name

-- the common bundles have words as their names
abbrev pub CommonNamesAreWords : Type 0
CommonNamesAreWords = (policy : PolicyTree) → IsSourced policy → All HasWordName (common_bundles_of policy)

-- the sequence of a valid policy that was read has words alone
abbrev pub SequenceNamesAreWords : Type 0
SequenceNamesAreWords = (policy : PolicyTree) → Valid policy → IsSourced policy → All IsWord (sequence_of policy)

-- ---- ids

-- the bundle is a word, and the number and the line are counted from 1, up to what the longest file may have
pub record IsCounted (id : PromiseId) : Type 0 where
  pub bundle : IsWord id.bundle
  pub number : 1 ≤ id.number
  pub number_fits : id.number ≤ MOST_SOURCE_BYTES
  pub line : 1 ≤ id.line
  pub line_fits : id.line ≤ MOST_SOURCE_BYTES + 1

-- the ids of the promises of a policy that was read are such
abbrev pub IdsAreCounted : Type 0
IdsAreCounted = (policy : PolicyTree) → IsSourced policy → All IsCounted (promise_ids_of policy)
