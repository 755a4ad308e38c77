-- What is left of a value at a state of the machine: `ValueRest limit state tokens tree rest` says that with these tokens,
-- up to rest, the value becomes this tree. It is kept one token earlier, and some tokens lead each state to an end.
use Rattle.std.proofs.Common.{◌≡◌, ℕ, suc, Bool, true, false, List, [], ◌∷◌, ◌++◌, length, Option, Some, None, refl, sym, subst, append-nil}
use Rattle.cfa_base.specs.declared.places.Place.{Place}
use Rattle.cfa_base.specs.declared.tokens.Kind.{Kind}
use Rattle.cfa_base.specs.declared.tokens.Kind.TheVariants.{Word, Text, Ref, ListRef, Comma, OpenBrace, CloseBrace, OpenParen, CloseParen}
use Rattle.cfa_base.specs.Tokens.{Token}
use Rattle.cfa_base.specs.Lexing.{content_of, name_of}
use Rattle.cfa_tree.specs.Tree.{ValueTree, text, word, reference, list_reference, list, call, value_trees}
use Rattle.cfa_tree.specs.Grammar.{token, Levels, Value, a_list, an_item, Item, a_text, a_reference, a_list_reference, a_word, a_call, Args, no_args, some_args, MoreArgs, args_end, next_arg, no_items, some_items, MoreItems, items_end, comma_end, next_item}
use Rattle.cfa_tree.specs.Room.{left_of, has_room, only_if}
use Rattle.cfa_parser.specs.Values.{OpenList, OpenCall, ValueState, wants_value, has_word, has_paren, has_item, has_argument, has_value, ValueProgress, goes_on, ended, value_start, with_item, with_argument, value_taken, going_on, new_call, behind_step, value_step}
use Rattle.cfa_tree.specs.lemmas.GuardRest.{somewhere}
use Rattle.cfa_tree.specs.lemmas.Lists.{append_one}
use Rattle.cfa_tree.specs.lemmas.Levels.{room_opens, left_of-none}

-- the rest behind a value that stands in a list or a call that is open, or alone
pub data BehindRest : Levels → ValueTree → Option OpenList → List OpenCall → List Token → ValueTree → List Token → Type 0 where
  alone : {limit : Levels} {v : ValueTree} {rest : List Token} → BehindRest limit v None [] rest v rest
  in_list : {limit : Levels} {v tree : ValueTree} {vs : List ValueTree} {l : OpenList} {calls : List OpenCall} {us ws rest : List Token} →
      MoreItems (left_of limit (length calls)) us vs ws → BehindRest limit (list (value_trees (l.items ++ v ∷ vs)) l.place) None calls ws tree rest →
      BehindRest limit v (Some l) calls us tree rest
  in_call : {limit : Levels} {v tree : ValueTree} {vs : List ValueTree} {c : OpenCall} {calls : List OpenCall} {us ws rest : List Token} →
      MoreArgs (left_of limit (suc (length calls))) us vs ws → BehindRest limit (call c.function (value_trees (c.arguments ++ v ∷ vs)) c.place) c.around calls ws tree rest →
      BehindRest limit v None (c ∷ calls) us tree rest

pub data ValueRest : Levels → ValueState → List Token → ValueTree → List Token → Type 0 where
  before_value : {limit : Levels} {v tree : ValueTree} {calls : List OpenCall} {us vs rest : List Token} →
      Value (left_of limit (length calls)) us v vs → BehindRest limit v None calls vs tree rest → ValueRest limit (wants_value None calls) us tree rest
  before_item : {limit : Levels} {v tree : ValueTree} {l : OpenList} {calls : List OpenCall} {us vs rest : List Token} →
      Item (left_of limit (length calls)) us v vs → BehindRest limit v (Some l) calls vs tree rest → ValueRest limit (wants_value (Some l) calls) us tree rest
  before_brace : {limit : Levels} {tree : ValueTree} {l : OpenList} {calls : List OpenCall} {x : List ℕ} {p : Place} {us rest : List Token} →
      BehindRest limit (list (value_trees l.items) l.place) None calls us tree rest → ValueRest limit (wants_value (Some l) calls) (token CloseBrace x p ∷ us) tree rest
  behind_word : {limit : Levels} {tree : ValueTree} {y : List ℕ} {q : Place} {inside : Option OpenList} {calls : List OpenCall} {us rest : List Token} →
      BehindRest limit (word y q) inside calls us tree rest → ValueRest limit (has_word y q inside calls) us tree rest
  behind_function : {limit : Levels} {tree : ValueTree} {y : List ℕ} {q : Place} {inside : Option OpenList} {calls : List OpenCall} {vs : List ValueTree} {us ws rest : List Token} →
      Args (left_of limit (length calls)) us vs ws → BehindRest limit (call y (value_trees vs) q) inside calls ws tree rest → ValueRest limit (has_word y q inside calls) us tree rest
  before_argument : {limit : Levels} {v tree : ValueTree} {c : OpenCall} {calls : List OpenCall} {us vs rest : List Token} →
      Value (left_of limit (suc (length calls))) us v vs → BehindRest limit v None (c ∷ calls) vs tree rest → ValueRest limit (has_paren c calls) us tree rest
  before_paren : {limit : Levels} {tree : ValueTree} {c : OpenCall} {calls : List OpenCall} {x : List ℕ} {p : Place} {us rest : List Token} →
      BehindRest limit (call c.function (value_trees c.arguments) c.place) c.around calls us tree rest → ValueRest limit (has_paren c calls) (token CloseParen x p ∷ us) tree rest
  behind_item : {limit : Levels} {tree : ValueTree} {vs : List ValueTree} {l : OpenList} {calls : List OpenCall} {us ws rest : List Token} →
      MoreItems (left_of limit (length calls)) us vs ws → BehindRest limit (list (value_trees (l.items ++ vs)) l.place) None calls ws tree rest → ValueRest limit (has_item l calls) us tree rest
  behind_argument : {limit : Levels} {tree : ValueTree} {vs : List ValueTree} {c : OpenCall} {calls : List OpenCall} {us ws rest : List Token} →
      MoreArgs (left_of limit (suc (length calls))) us vs ws → BehindRest limit (call c.function (value_trees (c.arguments ++ vs)) c.place) c.around calls ws tree rest →
      ValueRest limit (has_argument c calls) us tree rest
  whole : {limit : Levels} {v : ValueTree} {rest : List Token} → ValueRest limit (has_value v) rest v rest

item_behind : {limit : Levels} {v tree : ValueTree} {l : OpenList} {calls : List OpenCall} {us rest : List Token} →
    ValueRest limit (has_item (with_item l v) calls) us tree rest → BehindRest limit v (Some l) calls us tree rest
item_behind {limit = limit} {v = v} {tree = tree} {l = l} {calls = calls} {rest = rest} (behind_item {vs = vs} {ws = ws} more r) =
    in_list more (subst (λ z. BehindRest limit (list (value_trees z) l.place) None calls ws tree rest) (append_one l.items v vs) r)

argument_behind : {limit : Levels} {v tree : ValueTree} {c : OpenCall} {calls : List OpenCall} {us rest : List Token} →
    ValueRest limit (has_argument (with_argument c v) calls) us tree rest → BehindRest limit v None (c ∷ calls) us tree rest
argument_behind {limit = limit} {v = v} {tree = tree} {c = c} {calls = calls} {rest = rest} (behind_argument {vs = vs} {ws = ws} more r) =
    in_call more (subst (λ z. BehindRest limit (call c.function (value_trees z) c.place) c.around calls ws tree rest) (append_one c.arguments v vs) r)

value_behind : {limit : Levels} {v tree : ValueTree} {us rest : List Token} → ValueRest limit (has_value v) us tree rest → BehindRest limit v None [] us tree rest
value_behind whole = alone

-- behind a value that was taken
taken_behind : {limit : Levels} {tree : ValueTree} {us rest : List Token} (v : ValueTree) (inside : Option OpenList) (calls : List OpenCall) →
    ValueRest limit (value_taken v inside calls) us tree rest → BehindRest limit v inside calls us tree rest
taken_behind v (Some l) calls r = item_behind r
taken_behind v None (c ∷ calls) r = argument_behind r
taken_behind v None [] r = value_behind r

item_first : {limit : Levels} {v tree : ValueTree} {ts us rest : List Token} (inside : Option OpenList) (calls : List OpenCall) →
    Item (left_of limit (length calls)) ts v us → BehindRest limit v inside calls us tree rest → ValueRest limit (wants_value inside calls) ts tree rest
item_first None calls i r = before_value (an_item i) r
item_first (Some l) calls i r = before_item i r

word_first : {limit : Levels} {tree : ValueTree} {us rest : List Token} (x : List ℕ) (p : Place) (inside : Option OpenList) (calls : List OpenCall) →
    ValueRest limit (has_word x p inside calls) us tree rest → ValueRest limit (wants_value inside calls) (token Word x p ∷ us) tree rest
word_first x p inside calls (behind_word r) = item_first inside calls a_word r
word_first x p inside calls (behind_function a r) = item_first inside calls (a_call a) r

list_first : {limit : Levels} {tree : ValueTree} {us rest : List Token} (x : List ℕ) (p : Place) (calls : List OpenCall) →
    ValueRest limit (wants_value (Some (record { items = []; place = p })) calls) us tree rest → ValueRest limit (wants_value None calls) (token OpenBrace x p ∷ us) tree rest
list_first x p calls (before_item i (in_list more r)) = before_value (a_list (some_items i more)) r
list_first x p calls (before_brace r) = before_value (a_list no_items) r

-- one token earlier
abbrev pub ValueEarlier : Levels → ValueState → Token → Option ValueProgress → Type 0
ValueEarlier limit s t None = Unit {0}
ValueEarlier limit s t (Some (goes_on next)) = (us rest : List Token) (tree : ValueTree) → ValueRest limit next us tree rest → ValueRest limit s (t ∷ us) tree rest
ValueEarlier limit s t (Some (ended v)) = (rest : List Token) → ValueRest limit s rest v rest

wants_earlier : (limit : Levels) (inside : Option OpenList) (calls : List OpenCall) (k : Kind) (x : List ℕ) (p : Place) → ValueEarlier limit (wants_value inside calls) (token k x p) (value_step limit (wants_value inside calls) k x p)
wants_earlier limit inside calls Text x p = λ us rest tree r. item_first inside calls a_text (taken_behind (text (content_of x) p) inside calls r)
wants_earlier limit inside calls Ref x p = λ us rest tree r. item_first inside calls a_reference (taken_behind (reference (name_of x) p) inside calls r)
wants_earlier limit inside calls ListRef x p = λ us rest tree r. item_first inside calls a_list_reference (taken_behind (list_reference (name_of x) p) inside calls r)
wants_earlier limit inside calls Word x p = λ us rest tree r. word_first x p inside calls r
wants_earlier limit None calls OpenBrace x p = λ us rest tree r. list_first x p calls r
wants_earlier limit (Some l) calls OpenBrace x p = tt
wants_earlier limit None calls CloseBrace x p = tt
wants_earlier limit (Some l) calls CloseBrace x p = λ us rest tree r. before_brace (taken_behind (list (value_trees l.items) l.place) None calls r)
wants_earlier limit inside calls _ x p = tt

-- behind a call's parenthesis a value may begin as elsewhere
argument_first : {limit : Levels} {tree : ValueTree} {us rest : List Token} (c : OpenCall) (calls : List OpenCall) → ValueRest limit (wants_value None (c ∷ calls)) us tree rest → ValueRest limit (has_paren c calls) us tree rest
argument_first c calls (before_value v r) = before_argument v r

paren_earlier : (limit : Levels) (c : OpenCall) (calls : List OpenCall) (k : Kind) (x : List ℕ) (p : Place) → ValueEarlier limit (has_paren c calls) (token k x p) (value_step limit (has_paren c calls) k x p)
paren_earlier limit c calls CloseParen x p = λ us rest tree r. before_paren (taken_behind (call c.function (value_trees c.arguments) c.place) c.around calls r)
paren_earlier limit c calls Text x p = λ us rest tree r. argument_first c calls (wants_earlier limit None (c ∷ calls) Text x p us rest tree r)
paren_earlier limit c calls Ref x p = λ us rest tree r. argument_first c calls (wants_earlier limit None (c ∷ calls) Ref x p us rest tree r)
paren_earlier limit c calls ListRef x p = λ us rest tree r. argument_first c calls (wants_earlier limit None (c ∷ calls) ListRef x p us rest tree r)
paren_earlier limit c calls Word x p = λ us rest tree r. argument_first c calls (wants_earlier limit None (c ∷ calls) Word x p us rest tree r)
paren_earlier limit c calls OpenBrace x p = λ us rest tree r. argument_first c calls (wants_earlier limit None (c ∷ calls) OpenBrace x p us rest tree r)
paren_earlier limit c calls _ x p = tt

comma_item_rest : {limit : Levels} {tree : ValueTree} {l : OpenList} {calls : List OpenCall} {us rest : List Token} (x : List ℕ) (p : Place) →
    ValueRest limit (wants_value (Some l) calls) us tree rest → ValueRest limit (has_item l calls) (token Comma x p ∷ us) tree rest
comma_item_rest x p (before_item i (in_list more r)) = behind_item (next_item i more) r
comma_item_rest {limit = limit} {tree = tree} {l = l} {calls = calls} {rest = rest} x p (before_brace {us = us} r) =
    behind_item comma_end (subst (λ z. BehindRest limit (list (value_trees z) l.place) None calls us tree rest) (sym (append-nil l.items)) r)

comma_argument_rest : {limit : Levels} {tree : ValueTree} {c : OpenCall} {calls : List OpenCall} {us rest : List Token} (x : List ℕ) (p : Place) →
    ValueRest limit (wants_value None (c ∷ calls)) us tree rest → ValueRest limit (has_argument c calls) (token Comma x p ∷ us) tree rest
comma_argument_rest x p (before_value v (in_call more r)) = behind_argument (next_arg v more) r

brace_item_rest : {limit : Levels} {tree : ValueTree} {l : OpenList} {calls : List OpenCall} {us rest : List Token} (x : List ℕ) (p : Place) →
    BehindRest limit (list (value_trees l.items) l.place) None calls us tree rest → ValueRest limit (has_item l calls) (token CloseBrace x p ∷ us) tree rest
brace_item_rest {limit = limit} {tree = tree} {l = l} {calls = calls} {us = us} {rest = rest} x p r =
    behind_item items_end (subst (λ z. BehindRest limit (list (value_trees z) l.place) None calls us tree rest) (sym (append-nil l.items)) r)

paren_argument_rest : {limit : Levels} {tree : ValueTree} {c : OpenCall} {calls : List OpenCall} {us rest : List Token} (x : List ℕ) (p : Place) →
    BehindRest limit (call c.function (value_trees c.arguments) c.place) c.around calls us tree rest → ValueRest limit (has_argument c calls) (token CloseParen x p ∷ us) tree rest
paren_argument_rest {limit = limit} {tree = tree} {c = c} {calls = calls} {us = us} {rest = rest} x p r =
    behind_argument args_end (subst (λ z. BehindRest limit (call c.function (value_trees z) c.place) c.around calls us tree rest) (sym (append-nil c.arguments)) r)

behind_earlier : (limit : Levels) (s : ValueState) (k : Kind) (x : List ℕ) (p : Place) → ValueEarlier limit s (token k x p) (behind_step s k)
behind_earlier limit (has_item l calls) Comma x p = λ us rest tree r. comma_item_rest x p r
behind_earlier limit (has_item l calls) CloseBrace x p = λ us rest tree r. brace_item_rest x p (taken_behind (list (value_trees l.items) l.place) None calls r)
behind_earlier limit (has_item l calls) _ x p = tt
behind_earlier limit (has_argument c calls) Comma x p = λ us rest tree r. comma_argument_rest x p r
behind_earlier limit (has_argument c calls) CloseParen x p = λ us rest tree r. paren_argument_rest x p (taken_behind (call c.function (value_trees c.arguments) c.place) c.around calls r)
behind_earlier limit (has_argument c calls) _ x p = tt
behind_earlier limit (has_value v) _ x p = λ rest. whole
behind_earlier limit (wants_value inside calls) _ x p = tt
behind_earlier limit (has_word y q inside calls) _ x p = tt
behind_earlier limit (has_paren c calls) _ x p = tt

-- a word is a value where no parenthesis follows
word_earlier : (limit : Levels) (y : List ℕ) (q : Place) (inside : Option OpenList) (calls : List OpenCall) (t : Token) (o : Option ValueProgress) →
    ValueEarlier limit (value_taken (word y q) inside calls) t o → ValueEarlier limit (has_word y q inside calls) t o
word_earlier limit y q inside calls t None h = tt
word_earlier limit y q inside calls t (Some (goes_on next)) h = λ us rest tree r. behind_word (taken_behind (word y q) inside calls (h us rest tree r))
word_earlier limit y q inside calls t (Some (ended v)) h = λ rest. behind_word (taken_behind (word y q) inside calls (h rest))

call_first : {limit : Levels} {tree : ValueTree} {us rest : List Token} (y : List ℕ) (q : Place) (inside : Option OpenList) (calls : List OpenCall) (x : List ℕ) (p : Place) → has_room limit (length calls) ≡ true →
    ValueRest limit (has_paren (new_call inside y q) calls) us tree rest → ValueRest limit (has_word y q inside calls) (token OpenParen x p ∷ us) tree rest
call_first {limit = limit} y q inside calls x p room (before_argument v (in_call more r)) = behind_function (some_args (room_opens limit (length calls) room) v more) r
call_first {limit = limit} y q inside calls x p room (before_paren r) = behind_function (no_args (room_opens limit (length calls) room)) r

if_room : {limit : Levels} {s : ValueState} {t : Token} (allowed : Bool) (next : ValueState) →
    (allowed ≡ true → (us rest : List Token) (tree : ValueTree) → ValueRest limit next us tree rest → ValueRest limit s (t ∷ us) tree rest) →
    ValueEarlier limit s t (going_on (only_if allowed next))
if_room true next h = h refl
if_room false next h = tt

pub value_earlier : (limit : Levels) (s : ValueState) (k : Kind) (x : List ℕ) (p : Place) → ValueEarlier limit s (token k x p) (value_step limit s k x p)
value_earlier limit (wants_value inside calls) k x p = wants_earlier limit inside calls k x p
value_earlier limit (has_word y q inside calls) OpenParen x p =
    if_room (has_room limit (length calls)) (has_paren (new_call inside y q) calls) (λ room us rest tree r. call_first y q inside calls x p room r)
value_earlier limit (has_word y q inside calls) k x p = word_earlier limit y q inside calls (token k x p) (behind_step (value_taken (word y q) inside calls) k) (behind_earlier limit (value_taken (word y q) inside calls) k x p)
value_earlier limit (has_paren c calls) k x p = paren_earlier limit c calls k x p
value_earlier limit (has_item l calls) k x p = behind_earlier limit (has_item l calls) k x p
value_earlier limit (has_argument c calls) k x p = behind_earlier limit (has_argument c calls) k x p
value_earlier limit (has_value v) k x p = λ rest. whole

-- from each state some tokens lead to the end of a value
abbrev Alive : Levels → ValueTree → Option OpenList → List OpenCall → List Token → Type 0
Alive limit v inside calls rest = (us : List Token) × (tree : ValueTree) × BehindRest limit v inside calls us tree rest

inside_alive : (limit : Levels) (calls : List OpenCall) (rest : List Token) → ((v : ValueTree) → Alive limit v None calls rest) → (inside : Option OpenList) (v : ValueTree) → Alive limit v inside calls rest
inside_alive limit calls rest later None v = later v
inside_alive limit calls rest later (Some l) v =
    let r = later (list (value_trees (l.items ++ v ∷ [])) l.place) in
    (token CloseBrace [] somewhere ∷ r.0, r.1, in_list items_end r.2)

calls_alive : (limit : Levels) (calls : List OpenCall) (rest : List Token) (v : ValueTree) → Alive limit v None calls rest
calls_alive limit [] rest v = (rest, v, alone)
calls_alive limit (c ∷ calls) rest v =
    let r = inside_alive limit calls rest (calls_alive limit calls rest) c.around (call c.function (value_trees (c.arguments ++ v ∷ [])) c.place) in
    (token CloseParen [] somewhere ∷ r.0, r.1, in_call args_end r.2)

alive : (limit : Levels) (v : ValueTree) (inside : Option OpenList) (calls : List OpenCall) (rest : List Token) → Alive limit v inside calls rest
alive limit v inside calls rest = inside_alive limit calls rest (calls_alive limit calls rest) inside v

pub value_alive : (limit : Levels) (s : ValueState) (rest : List Token) → (us : List Token) × (tree : ValueTree) × ValueRest limit s us tree rest
value_alive limit (wants_value inside calls) rest =
    let r = alive limit (word [] somewhere) inside calls rest in
    (token Word [] somewhere ∷ r.0, r.1, item_first inside calls a_word r.2)
value_alive limit (has_word y q inside calls) rest =
    let r = alive limit (word y q) inside calls rest in
    (r.0, r.1, behind_word r.2)
value_alive limit (has_paren c calls) rest =
    let r = alive limit (call c.function (value_trees c.arguments) c.place) c.around calls rest in
    (token CloseParen [] somewhere ∷ r.0, r.1, before_paren r.2)
value_alive limit (has_item l calls) rest =
    let r = alive limit (list (value_trees l.items) l.place) None calls rest in
    (token CloseBrace [] somewhere ∷ r.0, r.1, brace_item_rest [] somewhere r.2)
value_alive limit (has_argument c calls) rest =
    let r = alive limit (call c.function (value_trees c.arguments) c.place) c.around calls rest in
    (token CloseParen [] somewhere ∷ r.0, r.1, paren_argument_rest [] somewhere r.2)
value_alive limit (has_value v) rest = (rest, v, whole)

value_of_rest : {limit : Levels} {us rest : List Token} {tree : ValueTree} → ValueRest limit value_start us tree rest → Value (left_of limit 0) us tree rest
value_of_rest (before_value v alone) = v

-- at the start the rest is a value
pub value_starts : (limit : Levels) {us rest : List Token} {tree : ValueTree} → ValueRest limit value_start us tree rest → Value limit us tree rest
value_starts limit {us} {rest} {tree} r = subst (λ levels. Value levels us tree rest) (sym (left_of-none limit)) (value_of_rest r)
