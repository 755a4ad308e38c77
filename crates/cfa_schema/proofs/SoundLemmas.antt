-- The names of a policy that was read are words, and its lines are counted from 1.
use Rattle.std.proofs.Common.{ℕ, ◌+◌, ◌≤◌, List, [], ◌∷◌, length, All, Option, ap, sym, subst, arith}
use Rattle.std.specs.Prelude.{IsTrue}
use Rattle.std.specs.List.{AllByRecursion, position_or_len}
use Rattle.std.proofs.lemmas.Bool.{cond_both}
use Rattle.std.proofs.lemmas.List.{length-append, length-drop, length-take}
use Rattle.std.proofs.lemmas.List.Elements.{All-from_recursion}
use Rattle.cfa_base.specs.declared.limits.TheConstants.{MOST_SOURCE_BYTES}
use Rattle.cfa_base.specs.declared.places.Place.{Place}
use Rattle.cfa_base.specs.Tokens.{Token}
use Rattle.cfa_base.specs.Lexing.{is_newline, is_word, spells, line_of, place_past, place_after, Fault, Scans, ends, a_separator, a_comment, a_token, stops}
use Rattle.cfa_base.specs.lemmas.Lists.{each_append}
use Rattle.cfa_tree.specs.Tree.{ExprTree, PromiseTree, SectionTree, NamedTree, BlockTree, bundle, body, PolicyTree}
use Rattle.cfa_tree.specs.Grammar.{Levels, Promises, no_promise, new_guard, a_promise, Sections, no_section, a_section, Words, last_word, next_word, Params, no_params, empty_params, some_params, Policy, no_block, a_bundle, a_body}
use Rattle.cfa_schema.specs.Sourced.{AreRead, no_file, a_file, joined, IsSourced}
use Rattle.cfa_schema.proofs.RestLemmas.{all_at_end, then_ends, guard_ends, attributes_end, promisee_ends, promises_end, sections_end, params_end, body_attributes_end}

-- ---- places

-- a later place is at most so many lines further on
record IsLater (place later : Place) (n : ℕ) : Type 0 where
  from : place.line ≤ later.line
  to : later.line ≤ place.line + n

past_byte : (place : Place) (b : ℕ) → IsLater place (place_past place b) 1
past_byte place b =
    cond_both (is_newline b) (record { file = place.file; line = place.line + 1; col = 1 }) (record { file = place.file; line = place.line; col = place.col + 1 })
    (λ (later : Place). IsLater place later 1) (λ is. record { from = omega arith; to = omega arith }) (λ isnt. record { from = omega arith; to = omega arith })

past_bytes : (place : Place) (bytes : List ℕ) → IsLater place (place_after place bytes) (length bytes)
past_bytes place [] = record { from = omega arith; to = omega arith }
past_bytes place (b ∷ bs) =
    let one = past_byte place b in
    let more = past_bytes (place_past place b) bs in
    record { from = omega (arith, one.from, more.from); to = omega (arith, one.to, more.to) }

-- ---- tokens

-- a token is spelled as its kind, on a line up to the last
record IsSound (last : ℕ) (t : Token) : Type 0 where
  spelled : IsTrue (spells t.kind t.text)
  first : 1 ≤ t.place.line
  within : t.place.line ≤ last

tokens_sound : (last : ℕ) {place : Place} {bytes : List ℕ} {tokens : List Token} {fault : Option Fault} → Scans place bytes tokens fault →
    1 ≤ place.line → place.line + length bytes ≤ last → AllByRecursion (IsSound last) tokens
tokens_sound last ends from to = tt
tokens_sound last (a_separator {place = place} {b = b} is scans) from to =
    let one = past_byte place b in
    tokens_sound last scans (omega (arith, one.from, from)) (omega (arith, one.to, to))
tokens_sound last (a_comment {place = place} {b = b} {rest = rest} is scans) from to =
    let one = past_byte place b in
    let line = past_bytes (place_past place b) (line_of rest) in
    let left = length-drop (length (line_of rest)) rest in
    let taken = length-take (position_or_len is_newline rest) rest in
    tokens_sound last scans (omega (arith, one.from, line.from, from)) (omega (arith, one.to, line.to, left, taken, to))
tokens_sound last (a_token {place = place} {text = text} {rest = rest} takes scans) from to =
    let more = past_bytes place text in
    let parts = length-append text rest in
    let whole = ap length takes.cut in (
      record { spelled = takes.spelled; first = from; within = omega (arith, to) },
      tokens_sound last scans (omega (arith, more.from, from)) (omega (arith, more.to, parts, whole, to)),
    )
tokens_sound last (stops is none) from to = tt

-- ---- blocks

abbrev pub HasWord : NamedTree → Type 0
HasWord n = IsTrue (is_word n.name)

pub record StandsWithin (last : ℕ) (p : PromiseTree) : Type 0 where
  pub first : 1 ≤ p.place.line
  pub within : p.place.line ≤ last

abbrev pub AllStandWithin : ℕ → SectionTree → Type 0
AllStandWithin last section = AllByRecursion (StandsWithin last) section.promises

pub record IsSoundBundle (last : ℕ) (type_name name : NamedTree) (params : List NamedTree) (sections : List SectionTree) : Type 0 where
  pub type : HasWord type_name
  pub name_is : HasWord name
  pub params_are : AllByRecursion HasWord params
  pub lines : AllByRecursion (AllStandWithin last) sections

pub record IsSoundBody (type_name name : NamedTree) (params : List NamedTree) : Type 0 where
  pub type : HasWord type_name
  pub name_is : HasWord name
  pub params_are : AllByRecursion HasWord params

abbrev pub IsSoundBlock : ℕ → BlockTree → Type 0
IsSoundBlock last (bundle type_name name params sections place) = IsSoundBundle last type_name name params sections
IsSoundBlock last (body type_name name params attributes place) = IsSoundBody type_name name params

module _ (last : ℕ) where
  abbrev AllSound : List Token → Type 0
  AllSound tokens = AllByRecursion (IsSound last) tokens

  words_sound : {ts rest : List Token} {names : List NamedTree} → Words ts names rest → AllSound ts → AllByRecursion HasWord names
  words_sound last_word h = (h.0.spelled, tt)
  words_sound (next_word more) h = (h.0.spelled, words_sound more h.1.1)

  params_sound : {ts rest : List Token} {names : List NamedTree} → Params ts names rest → AllSound ts → AllByRecursion HasWord names
  params_sound no_params h = tt
  params_sound empty_params h = tt
  params_sound (some_params words) h = words_sound words h.1

  promises_sound : {levels : Levels} {ts rest : List Token} {g : Option ExprTree} {promises : List PromiseTree} → Promises levels ts g promises rest → AllSound ts →
      AllByRecursion (StandsWithin last) promises
  promises_sound no_promise h = tt
  promises_sound (new_guard e more) h = promises_sound more (all_at_end (IsSound last) (guard_ends e) h).1
  promises_sound (a_promise v attributes more) h = (
    record { first = h.0.first; within = h.0.within },
    promises_sound more (all_at_end (IsSound last) (then_ends (promisee_ends v) (attributes_end attributes)) h.1),
  )

  sections_sound : {levels : Levels} {ts rest : List Token} {sections : List SectionTree} → Sections levels ts sections rest → AllSound ts → AllByRecursion (AllStandWithin last) sections
  sections_sound no_section h = tt
  sections_sound (a_section promises more) h = (promises_sound promises h.1.1, sections_sound more (all_at_end (IsSound last) (promises_end promises) h.1.1))

  policy_sound : {levels : Levels} {ts : List Token} {tree : PolicyTree} → Policy levels ts tree → AllSound ts → AllByRecursion (IsSoundBlock last) tree
  policy_sound no_block h = tt
  policy_sound (a_bundle params within more) h =
      let heading = h.1.1.1 in
      let inside = (all_at_end (IsSound last) (params_end params) heading).1 in (
        record { type = h.1.0.spelled; name_is = h.1.1.0.spelled; params_are = params_sound params heading; lines = sections_sound within inside },
        policy_sound more (all_at_end (IsSound last) (sections_end within) inside).1,
      )
  policy_sound (a_body params within more) h =
      let heading = h.1.1.1 in
      let inside = (all_at_end (IsSound last) (params_end params) heading).1 in (
        record { type = h.1.0.spelled; name_is = h.1.1.0.spelled; params_are = params_sound params heading },
        policy_sound more (all_at_end (IsSound last) (body_attributes_end within) inside).1,
      )

-- ---- files

abbrev pub last_line : ℕ
last_line = MOST_SOURCE_BYTES + 1

files_sound : {file : ℕ} {parts : List PolicyTree} → AreRead file parts → AllByRecursion (IsSoundBlock last_line) (joined parts)
files_sound no_file = tt
files_sound (a_file {tree = tree} {more = more} is rest) =
    let fits = is.fits in
    each_append (IsSoundBlock last_line) tree (joined more)
    (policy_sound last_line is.reads (tokens_sound last_line is.lexes (omega arith) (omega (arith, fits)))) (files_sound rest)

pub sourced_is_sound : (policy : PolicyTree) → IsSourced policy → All (IsSoundBlock last_line) policy
sourced_is_sound policy is =
    All-from_recursion (IsSoundBlock last_line) policy (subst (AllByRecursion (IsSoundBlock last_line)) (sym is.whole) (files_sound is.read))
