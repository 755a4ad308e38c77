-- Of the code alone: reading a policy token by token, what was read so far, and what one more token makes of it. Each step looks at one
-- token alone. That these steps are the grammar is proved, not assumed.
use Rattle.std.specs.Prelude.{ℕ, List, [], ◌∷◌, ◌++◌, Option, Some, None, if◌then◌else◌, codes}
use Rattle.std.specs.Str.{bytes_eq}
use Rattle.cfa_base.specs.declared.places.Place.{Place}
use Rattle.cfa_base.specs.declared.tokens.Kind.{Kind}
use Rattle.cfa_base.specs.declared.tokens.Kind.TheVariants.{Word, Text, FatArrow, ThinArrow, DoubleColon, Colon, Comma, Semicolon, OpenBrace, CloseBrace, OpenParen, CloseParen, Bang}
use Rattle.cfa_base.specs.Tokens.{Token}
use Rattle.cfa_base.specs.Lexing.{content_of}
use Rattle.cfa_tree.specs.Tree.{ExprTree, class, ValueTree, AttributeTree, PromiseTree, SectionTree, NamedTree, BlockTree, bundle, body, PolicyTree}
use Rattle.cfa_tree.specs.Grammar.{Levels}
use Rattle.cfa_tree.specs.Guards.{GuardState, has_atom, guard_start, GuardProgress, goes_on as guard_goes_on, ended as guard_ended, guard_step}
use Rattle.cfa_parser.specs.Values.{ValueState, value_start, ValueProgress, goes_on as value_goes_on, ended as value_ended, value_step}

-- a section that is open: its word, the promises so far, and the guard that holds
pub record OpenSection : Type 0 where
  pub kind : List ℕ
  pub place : Place
  pub promises : List PromiseTree
  pub guard : Option ExprTree

-- a promise that is open: its promiser and promisee, and the attributes so far
pub record OpenPromise : Type 0 where
  pub promiser : List ℕ
  pub place : Place
  pub promisee : Option ValueTree
  pub attributes : List AttributeTree

-- where the reading stands within a section
pub data SectionState : Type 0 where
  -- a promise, a guard, a section or the bundle's end may follow
  between_promises : SectionState
  -- a word, which begins a guard or a section
  has_word : (name : List ℕ) (place : Place) → SectionState
  in_guard : GuardState → SectionState
  has_promiser : (promiser : List ℕ) (place : Place) → SectionState
  in_promisee : (promiser : List ℕ) (place : Place) (promisee : ValueState) → SectionState
  -- an attribute or the promise's end may follow
  wants_attribute : OpenPromise → SectionState
  has_name : OpenPromise → (name : List ℕ) (place : Place) → SectionState
  in_value : OpenPromise → (name : List ℕ) (place : Place) (value : ValueState) → SectionState

-- where the reading stands within a bundle
pub data BundleState : Type 0 where
  no_section : BundleState
  has_section_word : (kind : List ℕ) (place : Place) → BundleState
  in_section : OpenSection → SectionState → BundleState

-- where the reading stands within a body
pub data BodyState : Type 0 where
  between_attributes : BodyState
  has_body_name : (name : List ℕ) (place : Place) → BodyState
  in_body_value : (name : List ℕ) (place : Place) (value : ValueState) → BodyState

pub data BlockWord : Type 0 where
  bundle_word body_word : BlockWord

-- the first three words of a block, and its parameters so far
pub record Heading : Type 0 where
  pub block : BlockWord
  pub place : Place
  pub kind : NamedTree
  pub name : NamedTree
  pub params : List NamedTree

-- where the reading stands within a policy
pub data State : Type 0 where
  between_blocks : State
  has_block_word : (block : BlockWord) (place : Place) → State
  has_kind : (block : BlockWord) (place : Place) (kind : NamedTree) → State
  -- parameters or the brace may follow
  has_block_name : Heading → State
  wants_first_param : Heading → State
  has_param : Heading → State
  wants_param : Heading → State
  -- the brace must follow
  has_params : Heading → State
  in_bundle : Heading → List SectionTree → BundleState → State
  in_body : Heading → List AttributeTree → BodyState → State

-- the blocks that are whole, and what was read of the next
pub record Machine : Type 0 where
  pub blocks : PolicyTree
  pub state : State

abbrev pub start : Machine
start = record { blocks = []; state = between_blocks }

-- Within a section.

-- a section's state with the section itself
pub record Section : Type 0 where
  pub open_section : OpenSection
  pub state : SectionState

abbrev pub with_guard : OpenSection → ExprTree → OpenSection
with_guard s e = record { kind = s.kind; place = s.place; promises = s.promises; guard = Some e }

abbrev pub new_section : List ℕ → Place → OpenSection
new_section x p = record { kind = x; place = p; promises = []; guard = None }

abbrev pub new_promise : List ℕ → Place → Option ValueTree → OpenPromise
new_promise promiser place promisee = record { promiser = promiser; place = place; promisee = promisee; attributes = [] }

abbrev pub with_attribute : OpenPromise → List ℕ → Place → ValueTree → OpenPromise
with_attribute o name place v =
    record { promiser = o.promiser; place = o.place; promisee = o.promisee; attributes = o.attributes ++ record { name = name; value = v; place = place } ∷ [] }

-- a promise as it stands under a guard
abbrev pub closed_promise : Option ExprTree → OpenPromise → PromiseTree
closed_promise g o = record { guard = g; promiser = o.promiser; promisee = o.promisee; attributes = o.attributes; place = o.place }

abbrev pub with_promise : OpenSection → OpenPromise → OpenSection
with_promise s o = record { kind = s.kind; place = s.place; promises = s.promises ++ closed_promise s.guard o ∷ []; guard = s.guard }

abbrev pub closed_section : OpenSection → SectionTree
closed_section s = record { kind = s.kind; promises = s.promises; place = s.place }

abbrev pub stands : OpenSection → SectionState → Option Section
stands s state = Some (record { open_section = s; state = state })

abbrev pub guard_next : OpenSection → Option GuardProgress → Kind → Option Section
guard_next s None k = None
guard_next s (Some (guard_goes_on g)) k = stands s (in_guard g)
guard_next s (Some (guard_ended e)) DoubleColon = stands (with_guard s e) between_promises
guard_next s (Some (guard_ended e)) _ = None

-- the token may begin an attribute or end the promise
abbrev pub attribute_next : OpenSection → OpenPromise → Kind → List ℕ → Place → Option Section
attribute_next s o Word x p = stands s (has_name o x p)
attribute_next s o Semicolon x p = stands (with_promise s o) between_promises
attribute_next s o _ x p = None

abbrev pub promisee_next : OpenSection → List ℕ → Place → Option ValueProgress → Kind → List ℕ → Place → Option Section
promisee_next s promiser place None k x p = None
promisee_next s promiser place (Some (value_goes_on v)) k x p = stands s (in_promisee promiser place v)
promisee_next s promiser place (Some (value_ended v)) k x p = attribute_next s (new_promise promiser place (Some v)) k x p

abbrev pub attribute_end : OpenSection → OpenPromise → Kind → Option Section
attribute_end s o Comma = stands s (wants_attribute o)
attribute_end s o Semicolon = stands (with_promise s o) between_promises
attribute_end s o _ = None

abbrev pub value_next : OpenSection → OpenPromise → List ℕ → Place → Option ValueProgress → Kind → Option Section
value_next s o name place None k = None
value_next s o name place (Some (value_goes_on v)) k = stands s (in_value o name place v)
value_next s o name place (Some (value_ended v)) k = attribute_end s (with_attribute o name place v) k

abbrev pub promiser_next : OpenSection → List ℕ → Place → Kind → List ℕ → Place → Option Section
promiser_next s promiser place ThinArrow x p = stands s (in_promisee promiser place value_start)
promiser_next s promiser place k x p = attribute_next s (new_promise promiser place None) k x p

abbrev pub arrow_next : OpenSection → OpenPromise → List ℕ → Place → Kind → Option Section
arrow_next s o name place FatArrow = stands s (in_value o name place value_start)
arrow_next s o name place _ = None

abbrev pub between_next : Levels → OpenSection → Kind → List ℕ → Place → Option Section
between_next limit s Text x p = stands s (has_promiser (content_of x) p)
between_next limit s Word x p = stands s (has_word x p)
between_next limit s Bang x p = guard_next s (guard_step limit guard_start Bang x) Bang
between_next limit s OpenParen x p = guard_next s (guard_step limit guard_start OpenParen x) OpenParen
between_next limit s _ x p = None

-- the word was a guard's first atom
abbrev pub guard_word : List ℕ → GuardState
guard_word x = has_atom [] (class x ∷ []) []

-- what one more token makes of a section, where it stays in it
abbrev pub section_step : Levels → OpenSection → SectionState → Kind → List ℕ → Place → Option Section
section_step limit s between_promises k x p = between_next limit s k x p
section_step limit s (has_word y q) k x p = guard_next s (guard_step limit (guard_word y) k x) k
section_step limit s (in_guard g) k x p = guard_next s (guard_step limit g k x) k
section_step limit s (has_promiser promiser place) k x p = promiser_next s promiser place k x p
section_step limit s (in_promisee promiser place v) k x p = promisee_next s promiser place (value_step limit v k x p) k x p
section_step limit s (wants_attribute o) k x p = attribute_next s o k x p
section_step limit s (has_name o name place) k x p = arrow_next s o name place k
section_step limit s (in_value o name place v) k x p = value_next s o name place (value_step limit v k x p) k

-- Within a bundle.

-- the sections that are whole, and what was read of the next; or the bundle's end
pub data BundleProgress : Type 0 where
  goes_on : List SectionTree → BundleState → BundleProgress
  ended : List SectionTree → BundleProgress

abbrev pub within : List SectionTree → Option Section → Option BundleProgress
within ss None = None
within ss (Some s) = Some (goes_on ss (in_section s.open_section s.state))

-- in a section, where a brace ends the bundle and a word with a colon begins another section
abbrev pub in_section_step : Levels → List SectionTree → OpenSection → SectionState → Kind → List ℕ → Place → Option BundleProgress
in_section_step limit ss s between_promises CloseBrace x p = Some (ended (ss ++ closed_section s ∷ []))
in_section_step limit ss s (has_word y q) Colon x p = Some (goes_on (ss ++ closed_section s ∷ []) (in_section (new_section y q) between_promises))
in_section_step limit ss s state k x p = within ss (section_step limit s state k x p)

abbrev pub bundle_step : Levels → List SectionTree → BundleState → Kind → List ℕ → Place → Option BundleProgress
bundle_step limit ss no_section Word x p = Some (goes_on ss (has_section_word x p))
bundle_step limit ss no_section CloseBrace x p = Some (ended ss)
bundle_step limit ss no_section _ x p = None
bundle_step limit ss (has_section_word y q) Colon x p = Some (goes_on ss (in_section (new_section y q) between_promises))
bundle_step limit ss (has_section_word y q) _ x p = None
bundle_step limit ss (in_section s state) k x p = in_section_step limit ss s state k x p

-- Within a body.

pub data BodyProgress : Type 0 where
  body_goes_on : List AttributeTree → BodyState → BodyProgress
  body_ended : List AttributeTree → BodyProgress

abbrev pub body_value_next : List AttributeTree → List ℕ → Place → Option ValueProgress → Kind → Option BodyProgress
body_value_next attrs name place None k = None
body_value_next attrs name place (Some (value_goes_on v)) k = Some (body_goes_on attrs (in_body_value name place v))
body_value_next attrs name place (Some (value_ended v)) Semicolon = Some (body_goes_on (attrs ++ record { name = name; value = v; place = place } ∷ []) between_attributes)
body_value_next attrs name place (Some (value_ended v)) _ = None

abbrev pub body_step : Levels → List AttributeTree → BodyState → Kind → List ℕ → Place → Option BodyProgress
body_step limit attrs between_attributes Word x p = Some (body_goes_on attrs (has_body_name x p))
body_step limit attrs between_attributes CloseBrace x p = Some (body_ended attrs)
body_step limit attrs between_attributes _ x p = None
body_step limit attrs (has_body_name name place) FatArrow x p = Some (body_goes_on attrs (in_body_value name place value_start))
body_step limit attrs (has_body_name name place) _ x p = None
body_step limit attrs (in_body_value name place v) k x p = body_value_next attrs name place (value_step limit v k x p) k

-- Within a policy.

abbrev pub block_word : List ℕ → Option BlockWord
block_word x = if bytes_eq x (codes "bundle") then Some bundle_word else if bytes_eq x (codes "body") then Some body_word else None

abbrev pub machine : PolicyTree → State → Machine
machine blocks state = record { blocks = blocks; state = state }

abbrev pub block_begun : PolicyTree → Option BlockWord → Place → Option Machine
block_begun blocks None p = None
block_begun blocks (Some w) p = Some (machine blocks (has_block_word w p))

abbrev pub named : List ℕ → Place → NamedTree
named x p = record { name = x; place = p }

abbrev pub with_param : Heading → NamedTree → Heading
with_param h n = record { block = h.block; place = h.place; kind = h.kind; name = h.name; params = h.params ++ n ∷ [] }

abbrev pub new_heading : BlockWord → Place → (kind name : NamedTree) → Heading
new_heading w p kind name = record { block = w; place = p; kind = kind; name = name; params = [] }

-- behind the brace
abbrev pub block_opened : BlockWord → Heading → State
block_opened bundle_word h = in_bundle h [] no_section
block_opened body_word h = in_body h [] between_attributes

abbrev pub closed_bundle : Heading → List SectionTree → BlockTree
closed_bundle h sections = bundle h.kind h.name h.params sections h.place

abbrev pub closed_body : Heading → List AttributeTree → BlockTree
closed_body h attributes = body h.kind h.name h.params attributes h.place

abbrev pub bundle_next : PolicyTree → Heading → Option BundleProgress → Option Machine
bundle_next blocks h None = None
bundle_next blocks h (Some (goes_on ss state)) = Some (machine blocks (in_bundle h ss state))
bundle_next blocks h (Some (ended ss)) = Some (machine (blocks ++ closed_bundle h ss ∷ []) between_blocks)

abbrev pub body_next : PolicyTree → Heading → Option BodyProgress → Option Machine
body_next blocks h None = None
body_next blocks h (Some (body_goes_on attrs state)) = Some (machine blocks (in_body h attrs state))
body_next blocks h (Some (body_ended attrs)) = Some (machine (blocks ++ closed_body h attrs ∷ []) between_blocks)

-- the words, parentheses and commas before a block's brace
abbrev pub heading_step : State → Kind → List ℕ → Place → Option State
heading_step (has_block_word w q) Word x p = Some (has_kind w q (named x p))
heading_step (has_kind w q kind) Word x p = Some (has_block_name (new_heading w q kind (named x p)))
heading_step (has_block_name h) OpenParen x p = Some (wants_first_param h)
heading_step (has_block_name h) OpenBrace x p = Some (block_opened h.block h)
heading_step (wants_first_param h) Word x p = Some (has_param (with_param h (named x p)))
heading_step (wants_first_param h) CloseParen x p = Some (has_params h)
heading_step (has_param h) Comma x p = Some (wants_param h)
heading_step (has_param h) CloseParen x p = Some (has_params h)
heading_step (wants_param h) Word x p = Some (has_param (with_param h (named x p)))
heading_step (has_params h) OpenBrace x p = Some (block_opened h.block h)
heading_step _ _ x p = None

abbrev pub within_blocks : PolicyTree → Option State → Option Machine
within_blocks blocks None = None
within_blocks blocks (Some state) = Some (machine blocks state)

abbrev pub state_step : Levels → PolicyTree → State → Kind → List ℕ → Place → Option Machine
state_step limit blocks between_blocks Word x p = block_begun blocks (block_word x) p
state_step limit blocks between_blocks _ x p = None
state_step limit blocks (in_bundle h ss state) k x p = bundle_next blocks h (bundle_step limit ss state k x p)
state_step limit blocks (in_body h attrs state) k x p = body_next blocks h (body_step limit attrs state k x p)
state_step limit blocks state k x p = within_blocks blocks (heading_step state k x p)

-- what one more token makes of what was read; None where no policy goes on so
abbrev pub step : Levels → Machine → Token → Option Machine
step limit m t = state_step limit m.blocks m.state t.kind t.text t.place

abbrev pub run : Levels → Option Machine → List Token → Option Machine
run limit None tokens = None
run limit (Some m) [] = Some m
run limit (Some m) (t ∷ tokens) = run limit (step limit m t) tokens

-- a policy is whole between blocks
abbrev pub whole_at : PolicyTree → State → Option PolicyTree
whole_at blocks between_blocks = Some blocks
whole_at blocks _ = None

abbrev pub whole : Machine → Option PolicyTree
whole m = whole_at m.blocks m.state
