-- Where references stand in a text, and the pieces of a text.
use Rattle.std.proofs.Common.{◌≡◌, ◌≢◌, ◌<◌, ◌≤◌, ◌+◌, ◌⊎◌, inl, inr, ⊎_elim, ℕ, suc, zero, Bool, true, false, cond, eqb, List, [], ◌∷◌, ◌++◌, length, take, drop, map, get_or, Option, Some, None, refl, arith, lit<, ap, subst, add-suc, add-zero, ◌∙◌, sym}
use Rattle.std.specs.List.{prefix_len, take_while}
use Rattle.std.specs.Option.{option_map}
use Rattle.std.proofs.lemmas.Option.{cond_some, none-some, same_Some}
use Rattle.std.proofs.lemmas.List.{drop_all, drop-drop, get_or-drop, get_or_past, drop_more, map_more, append_assoc, append-nil, length-take, length-drop, take_all, take_min}
use Rattle.std.proofs.lemmas.List.Sums.{prefix_len_passes}
use Rattle.std.specs.Str.{IsUtf8, IsCharBoundary}
use Rattle.std.proofs.lemmas.Str.{IsCharBoundary-before_ascii, IsCharBoundary-after_ascii}
use Rattle.std.proofs.lemmas.Bool.{eqb-true, cases_lt, and_parts}
use Rattle.std.proofs.lemmas.Bool.Decides.{nat_tests}
use Rattle.cfa_base.specs.Lexing.{is_name, is_name_byte, closing_of}
use Rattle.cfa_vars.specs.References.{name_before, reference_at, literal, reference, Piece, begun_by, pieces}

-- a name with the bracket that closes it, at the front of a text
record Closed (close : ℕ) (rest name : List ℕ) : Type 0 where
  within : length name < length rest
  spelled : name ≡ take (length name) rest
  names : (k : ℕ) → k < length name → is_name_byte (get_or rest k 0) ≡ true
  is_named : is_name name ≡ true
  closed : get_or rest (length name) 0 ≡ close

module _ (close : ℕ) (rest : List ℕ) (open_close : 0 < close) where
  front : List ℕ
  front = take_while is_name_byte rest

  closed_front : is_name front ≡ true → get_or rest (length front) 0 ≡ close → Closed close rest front
  unfolding front
  closed_front named at = record {
    within = within;
    spelled = sym (ap (λ n. take n rest) (length-take (prefix_len is_name_byte rest) rest) ∙ take_min (prefix_len is_name_byte rest) rest);
    names = λ k h. prefix_len_passes is_name_byte rest k 0 (omega (arith, length-take (prefix_len is_name_byte rest) rest));
    is_named = named;
    closed = at;
  }
    where
      within : length front < length rest
      within = ⊎_elim (λ h. h) (λ h. absurd (omega (arith, at, get_or_past rest (length front) 0 h))) (cases_lt (length front) (length rest))

  closed_name : (name : List ℕ) → name_before (Some close) rest ≡ Some name → Closed close rest name
  unfolding front
  closed_name name h =
      let c = cond_some _ front name h in
      let b = and_parts (is_name front) (eqb (get_or rest (length front) 0) close) c.0 in
      subst (λ (n : List ℕ). Closed close rest n) c.1 (closed_front b.0 (eqb-true _ _ b.1))

-- where the reference of this name stands at the front of a text, and what its bytes are
pub record Stands (text name : List ℕ) : Type 0 where
  pub within : length name + 3 ≤ length text
  pub dollar : get_or text 0 0 ≡ 36
  pub opened : (get_or text 1 0 ≡ 40) ⊎ (get_or text 1 0 ≡ 123)
  pub spelled : name ≡ take (length name) (drop 2 text)
  pub names : (k : ℕ) → k < length name → is_name_byte (get_or text (k + 2) 0) ≡ true
  pub is_named : is_name name ≡ true
  pub closed : (get_or text (length name + 2) 0 ≡ 41) ⊎ (get_or text (length name + 2) 0 ≡ 125)

-- the name after an open bracket and the closing one, seen from the `$`
stands_after : (dollar open_bracket close : ℕ) (rest name : List ℕ) → dollar ≡ 36 → (open_bracket ≡ 40) ⊎ (open_bracket ≡ 123) → (close ≡ 41) ⊎ (close ≡ 125) → Closed close rest name → Stands (dollar ∷ open_bracket ∷ rest) name
stands_after dollar open_bracket close rest name d o e c = record {
  within = omega (arith, c.within);
  dollar = d;
  opened = o;
  spelled = c.spelled;
  names = λ k h. rw (add-suc, add-suc, add-zero) (c.names k h);
  is_named = c.is_named;
  closed = rw (add-suc, add-suc, add-zero) (rw c.closed e);
}

closing_cases : (dollar open_bracket : ℕ) (rest name : List ℕ) → dollar ≡ 36 → (s t : Bool) → eqb open_bracket 40 ≡ s → eqb open_bracket 123 ≡ t → name_before (cond s (Some 41) (cond t (Some 125) None)) rest ≡ Some name → Stands (dollar ∷ open_bracket ∷ rest) name
closing_cases dollar o rest name d true t es et h = stands_after dollar o 41 rest name d (inl (eqb-true o 40 es)) (inl refl) (closed_name 41 rest (omega arith) name h)
closing_cases dollar o rest name d false true es et h = stands_after dollar o 125 rest name d (inr (eqb-true o 123 et)) (inr refl) (closed_name 125 rest (omega arith) name h)
closing_cases dollar o rest name d false false es et h = absurd (none-some name h)

dollar_cases : (dollar open_bracket : ℕ) (rest name : List ℕ) (t : Bool) → eqb dollar 36 ≡ t → cond t (name_before (closing_of open_bracket) rest) None ≡ Some name → Stands (dollar ∷ open_bracket ∷ rest) name
dollar_cases dollar o rest name true e h = closing_cases dollar o rest name (eqb-true dollar 36 e) (eqb o 40) (eqb o 123) refl refl h
dollar_cases dollar o rest name false e h = absurd (none-some name h)

pub stands : (text name : List ℕ) → reference_at text ≡ Some name → Stands text name
unfolding reference_at
stands [] name h = absurd (none-some name h)
stands (d ∷ []) name h = absurd (none-some name h)
stands (d ∷ o ∷ rest) name h = dollar_cases d o rest name (eqb d 36) refl h

-- a name byte is ASCII, and no `$`
pub name_byte_range : (b : ℕ) → is_name_byte b ≡ true → (b < 128) × (36 < b)
name_byte_range b h = grind (arith, nat_tests)

-- no reference begins at another byte than a `$`
no_dollar : (b : ℕ) (rest : List ℕ) → b ≢ 36 → reference_at (b ∷ rest) ≡ None
unfolding reference_at
no_dollar b [] h = refl
no_dollar b (o ∷ rest) h = grind (arith, nat_tests)

-- the pieces behind some bytes that are no `$`
pub drop-pieces : (n : ℕ) (text : List ℕ) → n ≤ length text → ((k : ℕ) → k < n → get_or text k 0 ≢ 36) → drop n (pieces text) ≡ pieces (drop n text)
unfolding pieces
drop-pieces zero text h f = refl
drop-pieces (suc n) [] h f = absurd (omega arith)
drop-pieces (suc n) (b ∷ rest) h f = rw (no_dollar b rest (f 0 (omega arith))) (drop-pieces n rest (omega arith) (λ k l. f (suc k) (omega arith)))

name_of_size : (o : Option (List ℕ)) (size : ℕ) → option_map length o ≡ Some size → (name : List ℕ) × (o ≡ Some name) × (length name ≡ size)
name_of_size None size h = absurd (none-some size h)
name_of_size (Some name) size h = (name, refl, same_Some (length name) size h)

-- where the reference at a place of a text may be cut out
pub record Cuts (text : List ℕ) (place size : ℕ) : Type 0 where
  pub fits : place + size + 3 ≤ length text
  pub at_dollar : IsCharBoundary text place
  pub at_name : IsCharBoundary text (place + 2)
  pub behind_name : IsCharBoundary text (place + 2 + size)
  pub behind : IsCharBoundary text (place + size + 3)
  pub named : reference_at (drop place text) ≡ Some (take size (drop (place + 2) text))
  pub spelled : (k : ℕ) → k < size + 2 → get_or text (place + 1 + k) 0 ≢ 36

module _ (text : List ℕ) (place : ℕ) (utf8 : IsUtf8 text) (name : List ℕ) (s : Stands (drop place text) name) where
  fits_name : place + length name + 3 ≤ length text
  fits_name = omega (arith, s.within, length-drop place text)

  byte_at : (k b : ℕ) → get_or (drop place text) k 0 ≡ b → get_or text (place + k) 0 ≡ b
  byte_at k b e = sym (get_or-drop place text k 0) ∙ e

  bracket : (b x y : ℕ) → (b ≡ x) ⊎ (b ≡ y) → x < 128 → y < 128 → 36 < x → 36 < y → (b < 128) × (36 < b)
  bracket b x y (inl e) p q r t = (omega arith, omega arith)
  bracket b x y (inr e) p q r t = (omega arith, omega arith)

  opened_byte : (get_or text (place + 1) 0 < 128) × (36 < get_or text (place + 1) 0)
  opened_byte = subst (λ (b : ℕ). (b < 128) × (36 < b)) (get_or-drop place text 1 0) (bracket _ 40 123 s.opened (lit< tt) (lit< tt) (lit< tt) (lit< tt))

  closed_byte : (get_or text (place + (length name + 2)) 0 < 128) × (36 < get_or text (place + (length name + 2)) 0)
  closed_byte = subst (λ (b : ℕ). (b < 128) × (36 < b)) (get_or-drop place text (length name + 2) 0) (bracket _ 41 125 s.closed (lit< tt) (lit< tt) (lit< tt) (lit< tt))

  name_byte : (k : ℕ) → k < length name → (get_or text (place + (k + 2)) 0 < 128) × (36 < get_or text (place + (k + 2)) 0)
  name_byte k h = subst (λ (b : ℕ). (b < 128) × (36 < b)) (get_or-drop place text (k + 2) 0) (name_byte_range _ (s.names k h))

  no_dollar_inside : (k : ℕ) → k < length name + 2 → get_or text (place + 1 + k) 0 ≢ 36
  no_dollar_inside zero h e = omega (arith, opened_byte, ap (λ i. get_or text i 0) (add-zero (place + 1)))
  no_dollar_inside (suc k) h e =
      let same : place + 1 + suc k ≡ place + (k + 2) = omega arith in
      let last : k ≡ length name → place + 1 + suc k ≡ place + (length name + 2) = λ l. omega arith in
      ⊎_elim (λ l. omega (arith, name_byte k l, e, ap (λ i. get_or text i 0) same)) (λ l. omega (arith, closed_byte, e, ap (λ i. get_or text i 0) (last (omega arith)))) (cases_lt k (length name))

  -- a text may be cut before and after an ASCII byte
  before : (i j : ℕ) → i ≡ j → i < length text → get_or text i 0 < 128 → IsCharBoundary text j
  before i j e l b = subst (λ (n : ℕ). IsCharBoundary text n) e (IsCharBoundary-before_ascii text i l b)

  after : (i j : ℕ) → i + 1 ≡ j → i < length text → get_or text i 0 < 128 → IsCharBoundary text j
  after i j e l b = subst (λ (n : ℕ). IsCharBoundary text n) e (IsCharBoundary-after_ascii text i utf8 l b)

  cuts_of_name : reference_at (drop place text) ≡ Some name → Cuts text place (length name)
  cuts_of_name r = record {
    fits = fits_name;
    at_dollar = before (place + 0) place (add-zero place) (omega (arith, fits_name)) (omega (arith, byte_at 0 36 s.dollar));
    at_name = after (place + 1) (place + 2) (omega arith) (omega (arith, fits_name)) opened_byte.0;
    behind_name = before (place + (length name + 2)) (place + 2 + length name) (omega arith) (omega (arith, fits_name)) closed_byte.0;
    behind = after (place + (length name + 2)) (place + length name + 3) (omega arith) (omega (arith, fits_name)) closed_byte.0;
    named = r ∙ ap (λ n. Some n) (s.spelled ∙ ap (λ t. take (length name) t) (drop-drop 2 place text));
    spelled = no_dollar_inside;
  }

pub cuts : (text : List ℕ) (place size : ℕ) → IsUtf8 text → option_map length (reference_at (drop place text)) ≡ Some size → Cuts text place size
cuts text place size utf8 h =
    let n = name_of_size (reference_at (drop place text)) size h in
    subst (λ (k : ℕ). Cuts text place k) n.2 (cuts_of_name text place utf8 n.0 (stands (drop place text) n.0 n.1) n.1)

none_of_size : (o : Option (List ℕ)) → option_map length o ≡ None → o ≡ None
none_of_size None h = refl
none_of_size (Some name) h = cc

begun_literal : (b : ℕ) (rest : List ℕ) → option_map length (reference_at (b ∷ rest)) ≡ None → pieces (b ∷ rest) ≡ literal b ∷ pieces rest
unfolding pieces
begun_literal b rest h = ap (λ o. begun_by b o (pieces rest)) (none_of_size (reference_at (b ∷ rest)) h)

begun_reference : (b : ℕ) (rest name : List ℕ) → reference_at (b ∷ rest) ≡ Some name → pieces (b ∷ rest) ≡ reference name ∷ drop (length name + 2) (pieces rest)
unfolding pieces
begun_reference b rest name h = ap (λ o. begun_by b o (pieces rest)) h

-- a byte at which no reference begins is a piece of its own
pieces_literal : (text : List ℕ) (place : ℕ) → place < length text → option_map length (reference_at (drop place text)) ≡ None → pieces (drop place text) ≡ literal (get_or text place 0) ∷ pieces (drop (place + 1) text)
pieces_literal text place h none =
    let e = drop_more text place 0 h in
    ap pieces e ∙ begun_literal (get_or text place 0) (drop (place + 1) text) (ap (λ t. option_map length (reference_at t)) (sym e) ∙ none)

-- one more byte at which no reference begins
pub pieces_more : (text : List ℕ) (place : ℕ) (whole : List Piece) → place < length text → option_map length (reference_at (drop place text)) ≡ None → map literal (take place text) ++ pieces (drop place text) ≡ whole → map literal (take (place + 1) text) ++ pieces (drop (place + 1) text) ≡ whole
pieces_more text place whole h none so_far =
    ap (λ t. t ++ pieces (drop (place + 1) text)) (map_more literal text place 0 h) ∙ append_assoc (map literal (take place text)) (literal (get_or text place 0) ∷ []) (pieces (drop (place + 1) text)) ∙ ap (λ t. map literal (take place text) ++ t) (sym (pieces_literal text place h none)) ∙ so_far

-- no reference begins anywhere
pub pieces_none : (text : List ℕ) (place : ℕ) (whole : List Piece) → length text ≤ place → map literal (take place text) ++ pieces (drop place text) ≡ whole → whole ≡ map literal text
unfolding pieces
pieces_none text place whole h so_far =
    sym so_far ∙ ap (λ t. map literal (take place text) ++ pieces t) (drop_all place text h) ∙ append-nil (map literal (take place text)) ∙ ap (map literal) (take_all place text h)

-- the reference at a place, and what stands behind it
pub pieces_found : (text name after : List ℕ) (place size : ℕ) (whole : List Piece) → IsUtf8 text → place < length text → option_map length (reference_at (drop place text)) ≡ Some size → reference_at (drop place text) ≡ Some name → after ≡ drop (place + size + 3) text → map literal (take place text) ++ pieces (drop place text) ≡ whole → whole ≡ map literal (take place text) ++ reference name ∷ pieces after
pieces_found text name after place size whole utf8 h sized named behind so_far =
    let cut = cuts text place size utf8 sized in
    let fits = cut.fits in
    let rest = drop (place + 1) text in
    let size_is : length name ≡ size = same_Some (length name) size (ap (option_map length) (sym named) ∙ sized) in
    let skipped : drop (length name + 2) (pieces rest) ≡ pieces (drop (length name + 2) rest) =
    drop-pieces (length name + 2) rest (omega (arith, length-drop (place + 1) text)) (λ k l. rw (get_or-drop (place + 1) text k 0) (cut.spelled k (omega arith))) in
    let left : drop (length name + 2) rest ≡ after =
    drop-drop (length name + 2) (place + 1) text ∙ ap (λ n. drop n text) (omega arith) ∙ sym behind in
    let front : pieces (drop place text) ≡ reference name ∷ pieces after =
    ap pieces (drop_more text place 0 h) ∙ begun_reference (get_or text place 0) rest name (ap reference_at (sym (drop_more text place 0 h)) ∙ named) ∙ ap (λ t. reference name ∷ t) (skipped ∙ ap pieces left) in
    sym so_far ∙ ap (λ t. map literal (take place text) ++ t) front

pub name_found : (text name : List ℕ) → reference_at text ≡ Some name → is_name name ≡ true
name_found text name h = (stands text name h).is_named
