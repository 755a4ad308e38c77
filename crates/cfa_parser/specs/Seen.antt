-- Of the code alone: the state that a reader of the program is in, and what it does with a token.
use Rattle.std.specs.Prelude.{List, map, reverse, option_map, ◌≡◌, ℕ, Option, None, Some, IsSome, Result, MatchResult}
use Rattle.cfa_tree.specs.SeenGuards.{seen_guard}
use Rattle.cfa_tree.specs.Plain.{plain_expr, plain_value, plain_attribute, plain_promise, plain_section, plain_named, plain_block}
use Rattle.cfa_parser.specs.declared.values.OpenList.{OpenList}
use Rattle.cfa_parser.specs.declared.values.OpenCall.{OpenCall}
use Rattle.cfa_parser.specs.declared.values.ValueState.{ValueState}
use Rattle.cfa_parser.specs.declared.values.ValueState.TheVariants.{WantsValue, HasWord, HasParen, HasItem, HasArgument, HasValue}
use Rattle.cfa_parser.specs.declared.values.ValueProgress.{ValueProgress}
use Rattle.cfa_parser.specs.declared.values.ValueProgress.TheVariants.{GoesOn as ValueGoesOn, Ended as ValueEnded}
use Rattle.cfa_parser.specs.declared.bundles.BundleState.{BundleState}
use Rattle.cfa_parser.specs.declared.bundles.BundleState.TheVariants.{NoSection, HasSectionWord, InSection}
use Rattle.cfa_parser.specs.declared.bundles.BundleProgress.{BundleProgress}
use Rattle.cfa_parser.specs.declared.bundles.BundleProgress.TheVariants.{GoesOn as BundleGoesOn, Ended as BundleEnded}
use Rattle.cfa_parser.specs.declared.bundles.BodyState.{BodyState}
use Rattle.cfa_parser.specs.declared.bundles.BodyState.TheVariants.{BetweenAttributes, HasBodyName, InBodyValue}
use Rattle.cfa_parser.specs.declared.bundles.BodyProgress.{BodyProgress}
use Rattle.cfa_parser.specs.declared.bundles.BodyProgress.TheVariants.{GoesOn as BodyGoesOn, Ended as BodyEnded}
use Rattle.cfa_parser.specs.declared.headings.BlockWord.{BlockWord}
use Rattle.cfa_parser.specs.declared.headings.BlockWord.TheVariants.{Bundle, Body}
use Rattle.cfa_parser.specs.declared.headings.Heading.{Heading}
use Rattle.cfa_parser.specs.declared.headings.HeadingState.{HeadingState}
use Rattle.cfa_parser.specs.declared.headings.HeadingState.TheVariants.{HasBlockWord, HasKind, HasBlockName, WantsFirstParam, HasParam, WantsParam, HasParams}
use Rattle.cfa_parser.specs.declared.headings.HeadingProgress.{HeadingProgress}
use Rattle.cfa_parser.specs.declared.headings.HeadingProgress.TheVariants.{GoesOn as HeadingGoesOn, Opened}
use Rattle.cfa_parser.specs.declared.reader.Reader.{Reader}
use Rattle.cfa_parser.specs.declared.reader.State.{State}
use Rattle.cfa_parser.specs.declared.reader.State.TheVariants.{BetweenBlocks, InHeading, InBundle, InBody}
use Rattle.cfa_parser.specs.declared.sections.OpenSection.{OpenSection}
use Rattle.cfa_parser.specs.declared.sections.OpenPromise.{OpenPromise}
use Rattle.cfa_parser.specs.declared.sections.SectionState.{SectionState}
use Rattle.cfa_parser.specs.declared.sections.SectionState.TheVariants.{BetweenPromises, HasWord as SectionHasWord, InGuard, HasPromiser, InPromisee, WantsAttribute, HasName, InValue}
use Rattle.cfa_parser.specs.declared.sections.StandingSection.{StandingSection}
use Rattle.cfa_base.specs.declared.places.Place.{Place}
use Rattle.cfa_base.specs.declared.tokens.Kind.{Kind}
use Rattle.cfa_base.specs.Tokens.{Token}
use Rattle.cfa_lexer.specs.declared.tokens.Token.{Token as SourceToken}
use Rattle.cfa_parser.specs.declared.errors.ParseErr.{ParseErr}
use Rattle.cfa_parser.specs.declared.errors.ParseErr.TheVariants.{Unexpected, TooDeep, NoMemory}
use Rattle.cfa_tree.specs.declared.guards.GuardErr.{GuardErr}
use Rattle.cfa_tree.specs.Grammar.{Levels, unlimited, depth_limit}
use Rattle.cfa_parser.specs.Reading.{UnexpectedToken, TooDeepAt}
use Rattle.cfa_parser.specs.Machine as machine
use Rattle.cfa_parser.specs.Values as values
use Rattle.cfa_tree.specs.declared.guards.GuardErr.TheVariants as guards

-- The state that a reader of the program is in, without where it lies in memory. A stack stands innermost
-- first.

abbrev pub seen_list : OpenList → values.OpenList
seen_list l = record { items = map plain_value l.items.items; place = l.place }

abbrev pub seen_call : OpenCall → values.OpenCall
seen_call c = record { around = option_map seen_list c.around; function = c.function; place = c.place; arguments = map plain_value c.arguments.items }

abbrev pub seen_calls : List OpenCall → List values.OpenCall
seen_calls calls = map seen_call (reverse calls)

abbrev pub seen_value : ValueState → values.ValueState
seen_value (WantsValue inside calls) = values.wants_value (option_map seen_list inside) (seen_calls calls.items)
seen_value (HasWord name place inside calls) = values.has_word name place (option_map seen_list inside) (seen_calls calls.items)
seen_value (HasParen call calls) = values.has_paren (seen_call call) (seen_calls calls.items)
seen_value (HasItem list calls) = values.has_item (seen_list list) (seen_calls calls.items)
seen_value (HasArgument call calls) = values.has_argument (seen_call call) (seen_calls calls.items)
seen_value (HasValue v) = values.has_value (plain_value v)

abbrev pub seen_value_progress : ValueProgress → values.ValueProgress
seen_value_progress (ValueGoesOn v) = values.goes_on (seen_value v)
seen_value_progress (ValueEnded v) = values.ended (plain_value v)

abbrev pub seen_open_section : OpenSection → machine.OpenSection
seen_open_section s = record { kind = s.kind; place = s.place; promises = map plain_promise s.promises.promises; guard = option_map plain_expr s.promises.guard }

abbrev pub seen_open_promise : OpenPromise → machine.OpenPromise
seen_open_promise o = record { promiser = o.promiser; place = o.place; promisee = option_map plain_value o.promisee; attributes = map plain_attribute o.attributes.items }

abbrev pub seen_section_state : SectionState → machine.SectionState
seen_section_state BetweenPromises = machine.between_promises
seen_section_state (SectionHasWord name place) = machine.has_word name place
seen_section_state (InGuard guard) = machine.in_guard (seen_guard guard)
seen_section_state (HasPromiser promiser place) = machine.has_promiser promiser place
seen_section_state (InPromisee promiser place value) = machine.in_promisee promiser place (seen_value value)
seen_section_state (WantsAttribute promise) = machine.wants_attribute (seen_open_promise promise)
seen_section_state (HasName promise name place) = machine.has_name (seen_open_promise promise) name place
seen_section_state (InValue promise name place value) = machine.in_value (seen_open_promise promise) name place (seen_value value)

abbrev pub seen_section : StandingSection → machine.Section
seen_section s = record { open_section = seen_open_section s.section; state = seen_section_state s.state }

abbrev pub seen_bundle_state : BundleState → machine.BundleState
seen_bundle_state NoSection = machine.no_section
seen_bundle_state (HasSectionWord word place) = machine.has_section_word word place
seen_bundle_state (InSection section state) = machine.in_section (seen_open_section section) (seen_section_state state)

abbrev pub seen_bundle_progress : BundleProgress → machine.BundleProgress
seen_bundle_progress (BundleGoesOn sections state) = machine.goes_on (map plain_section sections.items) (seen_bundle_state state)
seen_bundle_progress (BundleEnded sections) = machine.ended (map plain_section sections.items)

abbrev pub seen_body_state : BodyState → machine.BodyState
seen_body_state BetweenAttributes = machine.between_attributes
seen_body_state (HasBodyName name place) = machine.has_body_name name place
seen_body_state (InBodyValue name place value) = machine.in_body_value name place (seen_value value)

abbrev pub seen_body_progress : BodyProgress → machine.BodyProgress
seen_body_progress (BodyGoesOn attributes state) = machine.body_goes_on (map plain_attribute attributes.items) (seen_body_state state)
seen_body_progress (BodyEnded attributes) = machine.body_ended (map plain_attribute attributes.items)

abbrev pub seen_block_word : BlockWord → machine.BlockWord
seen_block_word Bundle = machine.bundle_word
seen_block_word Body = machine.body_word

abbrev pub seen_heading : Heading → machine.Heading
seen_heading h = record { block = seen_block_word h.block; place = h.place; kind = plain_named h.kind; name = plain_named h.name; params = map plain_named h.params.items }

abbrev pub seen_heading_state : HeadingState → machine.State
seen_heading_state (HasBlockWord block place) = machine.has_block_word (seen_block_word block) place
seen_heading_state (HasKind block place kind) = machine.has_kind (seen_block_word block) place (plain_named kind)
seen_heading_state (HasBlockName heading) = machine.has_block_name (seen_heading heading)
seen_heading_state (WantsFirstParam heading) = machine.wants_first_param (seen_heading heading)
seen_heading_state (HasParam heading) = machine.has_param (seen_heading heading)
seen_heading_state (WantsParam heading) = machine.wants_param (seen_heading heading)
seen_heading_state (HasParams heading) = machine.has_params (seen_heading heading)

abbrev pub seen_heading_progress : HeadingProgress → machine.State
seen_heading_progress (HeadingGoesOn state) = seen_heading_state state
seen_heading_progress (Opened heading) = machine.block_opened (seen_block_word heading.block) (seen_heading heading)

abbrev pub seen_state : State → machine.State
seen_state BetweenBlocks = machine.between_blocks
seen_state (InHeading heading) = seen_heading_state heading
seen_state (InBundle heading sections state) = machine.in_bundle (seen_heading heading) (map plain_section sections.items) (seen_bundle_state state)
seen_state (InBody heading attributes state) = machine.in_body (seen_heading heading) (map plain_attribute attributes.items) (seen_body_state state)

abbrev pub seen_reader : Reader → machine.Machine
seen_reader r = machine.machine (map plain_block r.blocks.items) (seen_state r.state)

-- What a reader does with a token. It takes it, or refuses it without a limit on levels too, or only because it
-- opens one level too many.

-- the token at this place, where the step within the limit and the step without one are these
abbrev pub Refused : {S : Type 0} → Place → Option S → Option S → ParseErr → Type 0
Refused here within beyond (Unexpected place) = (place ≡ here) × (within ≡ None) × (beyond ≡ None)
Refused here within beyond (TooDeep place) = (place ≡ here) × (within ≡ None) × IsSome beyond
Refused here within beyond NoMemory = Unit {0}

-- a reader goes by these steps, one for each limit on levels: it is then where the step within the limit leads, or refuses
-- the token at this place
abbrev pub StepsTo : {S R : Type 0} → (R → S) → Place → (Levels → Option S) → Result R ParseErr → Type 0
StepsTo seen here next result = MatchResult result (λ r. next depth_limit ≡ Some (seen r)) (Refused here (next depth_limit) (next unlimited))

-- the same, where the steps look at the token alone
abbrev pub Takes : {S R : Type 0} → (R → S) → SourceToken → (Levels → Kind → List ℕ → Place → Option S) → Result R ParseErr → Type 0
Takes seen token next result = StepsTo seen token.place (λ limit. next limit token.kind token.text.now token.place) result

-- no token is at fault
abbrev pub OnlyMemory : ParseErr → Type 0
OnlyMemory (Unexpected place) = ⊥
OnlyMemory (TooDeep place) = ⊥
OnlyMemory NoMemory = Unit {0}

-- the first of the tokens that is refused
abbrev pub StopsAtToken : List Token → ParseErr → Type 0
StopsAtToken tokens (Unexpected place) = UnexpectedToken tokens place
StopsAtToken tokens (TooDeep place) = TooDeepAt tokens place
StopsAtToken tokens NoMemory = Unit {0}

-- the fault of a token at this place that can't continue a guard
abbrev pub at_place : GuardErr → Place → ParseErr
at_place guards.Unexpected place = Unexpected place
at_place guards.TooDeep place = TooDeep place
at_place guards.NoMemory place = NoMemory
