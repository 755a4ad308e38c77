-- What the grammar reads as a value, the machine reads as that value.
use Rattle.std.proofs.Common.{◌≡◌, ℕ, suc, List, [], ◌∷◌, ◌++◌, length, Option, Some, None, refl, ap, ◌∙◌, sym, subst}
use Rattle.cfa_base.specs.declared.places.Place.{Place}
use Rattle.cfa_base.specs.declared.tokens.Kind.{Kind}
use Rattle.cfa_base.specs.declared.tokens.Kind.TheVariants.{Word, Text, Ref, ListRef, Comma, OpenBrace, CloseBrace, OpenParen, CloseParen}
use Rattle.cfa_base.specs.Tokens.{Token}
use Rattle.cfa_base.specs.Lexing.{content_of, name_of}
use Rattle.cfa_tree.specs.Tree.{ValueTree, text, word, reference, list_reference, list, call, value_trees}
use Rattle.cfa_tree.specs.Grammar.{token, Levels, Value, a_list, an_item, Item, a_text, a_reference, a_list_reference, a_word, a_call, Args, no_args, some_args, MoreArgs, args_end, next_arg, Items, no_items, some_items, MoreItems, items_end, comma_end, next_item}
use Rattle.cfa_tree.specs.Room.{left_of, only_if}
use Rattle.cfa_parser.specs.Values.{OpenList, OpenCall, ValueState, wants_value, has_word, has_paren, goes_on, with_item, with_argument, value_taken, list_closed, call_closed, going_on, new_call, value_step}
use Rattle.cfa_parser.specs.Machine.{Machine, step, run}
use Rattle.cfa_tree.specs.lemmas.Lists.{append_one}
use Rattle.cfa_tree.specs.lemmas.Levels.{opens_room}

-- a value within a policy: its steps are steps of the whole
abbrev pub ValueLifts : Levels → (ValueState → Machine) → Type 0
ValueLifts limit K = (v next : ValueState) (k : Kind) (x : List ℕ) (p : Place) → value_step limit v k x p ≡ Some (goes_on next) → step limit (K v) (token k x p) ≡ Some (K next)

-- a state behind a value: before any token but an open parenthesis it is as if the value was taken
pub data Behind : ValueTree → Option OpenList → List OpenCall → ValueState → Type 0 where
  taken : {v : ValueTree} {inside : Option OpenList} {calls : List OpenCall} → Behind v inside calls (value_taken v inside calls)
  word_behind : {x : List ℕ} {p : Place} {inside : Option OpenList} {calls : List OpenCall} → Behind (word x p) inside calls (has_word x p inside calls)

module _ (limit : Levels) (K : ValueState → Machine) (lifts : ValueLifts limit K) where
  moved : (v next : ValueState) (k : Kind) (x : List ℕ) (p : Place) (ts : List Token) → value_step limit v k x p ≡ Some (goes_on next) → run limit (Some (K v)) (token k x p ∷ ts) ≡ run limit (Some (K next)) ts
  moved v next k x p ts e = ap (λ m. run limit m ts) (lifts v next k x p e)

  -- where a value stands, and the machine has come behind it
  abbrev Comes : ValueTree → Option OpenList → List OpenCall → Option Machine → List Token → Type 0
  Comes v inside calls from rest = (s : ValueState) × Behind v inside calls s × (from ≡ run limit (Some (K s)) rest)

  comma_item : {v : ValueTree} {s : ValueState} {l : OpenList} {calls : List OpenCall} (x : List ℕ) (p : Place) → Behind v (Some l) calls s → value_step limit s Comma x p ≡ Some (goes_on (wants_value (Some (with_item l v)) calls))
  comma_item x p taken = refl
  comma_item x p word_behind = refl

  brace_item : {v : ValueTree} {s : ValueState} {l : OpenList} {calls : List OpenCall} (x : List ℕ) (p : Place) → Behind v (Some l) calls s → value_step limit s CloseBrace x p ≡ Some (goes_on (list_closed (with_item l v) calls))
  brace_item x p taken = refl
  brace_item x p word_behind = refl

  comma_argument : {v : ValueTree} {s : ValueState} {c : OpenCall} {calls : List OpenCall} (x : List ℕ) (p : Place) → Behind v None (c ∷ calls) s → value_step limit s Comma x p ≡ Some (goes_on (wants_value None (with_argument c v ∷ calls)))
  comma_argument x p taken = refl
  comma_argument x p word_behind = refl

  paren_argument : {v : ValueTree} {s : ValueState} {c : OpenCall} {calls : List OpenCall} (x : List ℕ) (p : Place) → Behind v None (c ∷ calls) s → value_step limit s CloseParen x p ≡ Some (goes_on (call_closed (with_argument c v) calls))
  paren_argument x p taken = refl
  paren_argument x p word_behind = refl

  both : (s t next : ValueState) (k : Kind) (x : List ℕ) (p : Place) (ts : List Token) → value_step limit s k x p ≡ Some (goes_on next) → value_step limit t k x p ≡ Some (goes_on next) →
      run limit (Some (K s)) (token k x p ∷ ts) ≡ run limit (Some (K t)) (token k x p ∷ ts)
  both s t next k x p ts e f = moved s next k x p ts e ∙ sym (moved t next k x p ts f)

  item_begins : {levels : Levels} {ts rest : List Token} {v : ValueTree} → Item levels ts v rest → (c : OpenCall) (calls : List OpenCall) →
      run limit (Some (K (has_paren c calls))) ts ≡ run limit (Some (K (wants_value None (c ∷ calls)))) ts
  item_begins (a_text {x = x} {p = p} {rest = rest}) c calls = both (has_paren c calls) (wants_value None (c ∷ calls)) (value_taken (text (content_of x) p) None (c ∷ calls)) Text x p rest refl refl
  item_begins (a_reference {x = x} {p = p} {rest = rest}) c calls = both (has_paren c calls) (wants_value None (c ∷ calls)) (value_taken (reference (name_of x) p) None (c ∷ calls)) Ref x p rest refl refl
  item_begins (a_list_reference {x = x} {p = p} {rest = rest}) c calls = both (has_paren c calls) (wants_value None (c ∷ calls)) (value_taken (list_reference (name_of x) p) None (c ∷ calls)) ListRef x p rest refl refl
  item_begins (a_word {x = x} {p = p} {rest = rest}) c calls = both (has_paren c calls) (wants_value None (c ∷ calls)) (has_word x p None (c ∷ calls)) Word x p rest refl refl
  item_begins (a_call {x = x} {p = p} {ts = ts} a) c calls = both (has_paren c calls) (wants_value None (c ∷ calls)) (has_word x p None (c ∷ calls)) Word x p ts refl refl

  -- no argument begins as the arguments end
  value_begins : {levels : Levels} {ts rest : List Token} {v : ValueTree} → Value levels ts v rest → (c : OpenCall) (calls : List OpenCall) →
      run limit (Some (K (has_paren c calls))) ts ≡ run limit (Some (K (wants_value None (c ∷ calls)))) ts
  value_begins (a_list {x = x} {p = p} {ts = ts} is) c calls = both (has_paren c calls) (wants_value None (c ∷ calls)) (wants_value (Some (record { items = []; place = p })) (c ∷ calls)) OpenBrace x p ts refl refl
  value_begins (an_item i) c calls = item_begins i c calls

  mutual
    pub value_run : {levels : Levels} {ts rest : List Token} {v : ValueTree} → Value levels ts v rest → (calls : List OpenCall) →
        levels ≡ left_of limit (length calls) → Comes v None calls (run limit (Some (K (wants_value None calls))) ts) rest
    value_run (a_list {x = x} {p = p} {ts = ts} is) calls at =
        let r = items_run is p calls at in
        (r.0, r.1, moved (wants_value None calls) (wants_value (Some (record { items = []; place = p })) calls) OpenBrace x p ts refl ∙ r.2)
    value_run (an_item i) calls at = item_run i None calls at

    pub item_run : {levels : Levels} {ts rest : List Token} {v : ValueTree} → Item levels ts v rest → (inside : Option OpenList) (calls : List OpenCall) →
        levels ≡ left_of limit (length calls) → Comes v inside calls (run limit (Some (K (wants_value inside calls))) ts) rest
    item_run (a_text {x = x} {p = p} {rest = rest}) inside calls at = (value_taken (text (content_of x) p) inside calls, taken, moved (wants_value inside calls) _ Text x p rest refl)
    item_run (a_reference {x = x} {p = p} {rest = rest}) inside calls at = (value_taken (reference (name_of x) p) inside calls, taken, moved (wants_value inside calls) _ Ref x p rest refl)
    item_run (a_list_reference {x = x} {p = p} {rest = rest}) inside calls at = (value_taken (list_reference (name_of x) p) inside calls, taken, moved (wants_value inside calls) _ ListRef x p rest refl)
    item_run (a_word {x = x} {p = p} {rest = rest}) inside calls at = (has_word x p inside calls, word_behind, moved (wants_value inside calls) _ Word x p rest refl)
    item_run (a_call {x = x} {p = p} {ts = ts} a) inside calls at =
        let r = args_run a x p inside calls at in
        (r.0, r.1, moved (wants_value inside calls) (has_word x p inside calls) Word x p ts refl ∙ r.2)

    pub args_run : {levels : Levels} {ts rest : List Token} {vs : List ValueTree} → Args levels ts vs rest → (x : List ℕ) (p : Place) (inside : Option OpenList) (calls : List OpenCall) →
        levels ≡ left_of limit (length calls) → Comes (call x (value_trees vs) p) inside calls (run limit (Some (K (has_word x p inside calls))) ts) rest
    args_run (no_args {x = y} {y = z} {p = q} {q = r} {rest = rest} o) x p inside calls at =
        let here = opens_room limit (length calls) o at in
        let c = new_call inside x p in (
          value_taken (call x (value_trees []) p) inside calls,
          taken,
          moved (has_word x p inside calls) (has_paren c calls) OpenParen y q (token CloseParen z r ∷ rest) (ap (λ b. going_on (only_if b (has_paren c calls))) here.room)
              ∙ moved (has_paren c calls) (call_closed c calls) CloseParen z r rest refl,
        )
    args_run (some_args {x = y} {p = q} {ts = ts} {v = v} {vs = vs} o a more) x p inside calls at =
        let here = opens_room limit (length calls) o at in
        let c = new_call inside x p in
        let first = value_run a (c ∷ calls) here.within in
        let last = more_args_run more first.0 v c calls first.1 here.within in (
          last.0,
          last.1,
          moved (has_word x p inside calls) (has_paren c calls) OpenParen y q ts (ap (λ b. going_on (only_if b (has_paren c calls))) here.room)
              ∙ (value_begins a c calls ∙ (first.2 ∙ last.2)),
        )

    -- behind an argument
    pub more_args_run : {levels : Levels} {ts rest : List Token} {vs : List ValueTree} → MoreArgs levels ts vs rest → (s : ValueState) (v : ValueTree) (c : OpenCall) (calls : List OpenCall) →
        Behind v None (c ∷ calls) s → levels ≡ left_of limit (suc (length calls)) →
        Comes (call c.function (value_trees (c.arguments ++ v ∷ vs)) c.place) c.around calls (run limit (Some (K s)) ts) rest
    more_args_run (args_end {x = x} {p = p} {rest = rest}) s v c calls behind at =
        (call_closed (with_argument c v) calls, taken, moved s (call_closed (with_argument c v) calls) CloseParen x p rest (paren_argument x p behind))
    more_args_run (next_arg {x = x} {p = p} {ts = ts} {us = us} {rest = rest} {v = w} {vs = ws} a more) s v c calls behind at =
        let next = value_run a (with_argument c v ∷ calls) at in
        let last = more_args_run more next.0 w (with_argument c v) calls next.1 at in
        let whole : Comes (call c.function (value_trees (c.arguments ++ v ∷ w ∷ ws)) c.place) c.around calls (run limit (Some (K next.0)) us) rest =
        subst (λ vs. Comes (call c.function (value_trees vs) c.place) c.around calls (run limit (Some (K next.0)) us) rest) (append_one c.arguments v (w ∷ ws)) last in
        (whole.0, whole.1, moved s (wants_value None (with_argument c v ∷ calls)) Comma x p ts (comma_argument x p behind) ∙ (next.2 ∙ whole.2))

    pub items_run : {levels : Levels} {ts rest : List Token} {vs : List ValueTree} → Items levels ts vs rest → (p : Place) (calls : List OpenCall) →
        levels ≡ left_of limit (length calls) → Comes (list (value_trees vs) p) None calls (run limit (Some (K (wants_value (Some (record { items = []; place = p })) calls))) ts) rest
    items_run (no_items {x = x} {p = q} {rest = rest}) p calls at =
        let l : OpenList = record { items = []; place = p } in
        (list_closed l calls, taken, moved (wants_value (Some l) calls) (list_closed l calls) CloseBrace x q rest refl)
    items_run (some_items {v = v} i more) p calls at =
        let l : OpenList = record { items = []; place = p } in
        let first = item_run i (Some l) calls at in
        let last = more_items_run more first.0 v l calls first.1 at in
        (last.0, last.1, first.2 ∙ last.2)

    -- behind an item
    pub more_items_run : {levels : Levels} {ts rest : List Token} {vs : List ValueTree} → MoreItems levels ts vs rest → (s : ValueState) (v : ValueTree) (l : OpenList) (calls : List OpenCall) →
        Behind v (Some l) calls s → levels ≡ left_of limit (length calls) →
        Comes (list (value_trees (l.items ++ v ∷ vs)) l.place) None calls (run limit (Some (K s)) ts) rest
    more_items_run (items_end {x = x} {p = p} {rest = rest}) s v l calls behind at =
        (list_closed (with_item l v) calls, taken, moved s (list_closed (with_item l v) calls) CloseBrace x p rest (brace_item x p behind))
    more_items_run (comma_end {x = x} {y = y} {p = p} {q = q} {rest = rest}) s v l calls behind at = (
      list_closed (with_item l v) calls,
      taken,
      moved s (wants_value (Some (with_item l v)) calls) Comma x p (token CloseBrace y q ∷ rest) (comma_item x p behind)
          ∙ moved (wants_value (Some (with_item l v)) calls) (list_closed (with_item l v) calls) CloseBrace y q rest refl,
    )
    more_items_run (next_item {x = x} {p = p} {ts = ts} {us = us} {rest = rest} {v = w} {vs = ws} i more) s v l calls behind at =
        let next = item_run i (Some (with_item l v)) calls at in
        let last = more_items_run more next.0 w (with_item l v) calls next.1 at in
        let whole : Comes (list (value_trees (l.items ++ v ∷ w ∷ ws)) l.place) None calls (run limit (Some (K next.0)) us) rest =
        subst (λ vs. Comes (list (value_trees vs) l.place) None calls (run limit (Some (K next.0)) us) rest) (append_one l.items v (w ∷ ws)) last in
        (whole.0, whole.1, moved s (wants_value (Some (with_item l v)) calls) Comma x p ts (comma_item x p behind) ∙ (next.2 ∙ whole.2))
