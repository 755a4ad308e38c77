-- A field edit made again: a line whose field is the value stays as it is.
use Rattle.std.proofs.Common.{◌≡◌, ◌≢◌, ℕ, ◌-◌, ◌<◌, ◌≤◌, zero, suc, Bool, true, false, cond, List, [], ◌∷◌, ◌++◌, length, map, get_or, set, Option, None, Some, All, refl, sym, ap, ◌∙◌, subst, arith, ⊎_elim, nat_eq, nat_lt, slice_get, IsUtf8, chars, append-nil, append_assoc}
use Rattle.std.specs.Prelude.{◌==◌, slice_set, encode_utf8_all}
use Rattle.std.proofs.lemmas.Bool.{false≢true, and_parts, or_parts, and_from, cases_Bool, cases_eq, eqb-false, eq-eqb, ne_eqb, cond-true, cond-false, le-ltb, ltb-false}
use Rattle.std.proofs.lemmas.List.{length-set, set-set, map-set, set-get_or, drop_at, append_cancel_left, append_cancel_right}
use Rattle.std.proofs.lemmas.List.Elements.{All-nil, All-cons, All-head, All-tail, All-append, All-set, All-drop, All-weaker, All-from_get_or}
use Rattle.std.proofs.lemmas.List.Splits.{slice_split_none, slice_split_at, length-slice_split, join_with_byte-slice_split}
use Rattle.std.proofs.lemmas.Option.{none-some, same_Some, slice_get_within, get_or_from_slice_get, slice_get-get_or}
use Rattle.std.proofs.lemmas.Slice.Eq.{bytes_eq-Decides}
use Rattle.std.proofs.lemmas.Str.{encodes-chars, scalars-chars, chars-encodes, encodes-append, encode_ascii, inside_one}
use Rattle.std.specs.Char.{IsScalar}
use Rattle.std.specs.List.{flat_map, slice_split, onto_first, join_with_byte}
use Rattle.std.specs.Str.{bytes_eq}
use lib.Utf8.{scalar, scalars, encode, encodes}
use Rattle.cfa_base.specs.Lacking.{Lacks}
use Rattle.cfa_edits.specs.Edits.{fields_of, joined_fields, with_field}
use Rattle.cfa_edits.specs.Scripts.{IsOneLine}
use Rattle.cfa_edit_proof.specs.Plain.{is_in}
use Rattle.cfa_edit_proof.specs.Clashes.{is_text, has_field}

abbrev parts : ℕ → List ℕ → List (List ℕ)
parts separator cs = slice_split (λ c. c == separator) cs

-- ---- parts and what holds of them

joined_encoded : (separator : ℕ) (ps : List (List ℕ)) → joined_fields separator (map encode_utf8_all ps) ≡ encodes (join_with_byte separator ps)
joined_encoded separator [] = refl
joined_encoded separator (p ∷ []) = append-nil (encodes p)
joined_encoded separator (p ∷ q ∷ ps) =
    ap (λ (t : List ℕ). encodes p ++ t)
    (append_assoc (encode separator) (encodes q) (flat_map (λ field. encode separator ++ field) (map encode_utf8_all ps)) ∙ ap (λ (t : List ℕ). encode separator ++ t) (joined_encoded separator (q ∷ ps)))
    ∙ sym (encodes-append p (separator ∷ join_with_byte separator (q ∷ ps)))

onto_holds : (Q : ℕ → Type 0) (c : ℕ) (ps : List (List ℕ)) → Q c → All (All Q) ps → All (All Q) (onto_first c ps)
onto_holds Q c [] h all = All-cons (All Q) (c ∷ []) [] (All-cons Q c [] h (All-nil Q)) (All-nil (All Q))
onto_holds Q c (p ∷ ps) h all = All-cons (All Q) (c ∷ p) ps (All-cons Q c p h (All-head (All Q) p ps all)) (All-tail (All Q) p ps all)

parts_hold : (Q : ℕ → Type 0) (separator : ℕ) (cs : List ℕ) → ((c : ℕ) → c ≢ separator → Q c → Q c) → All Q cs → All (All Q) (parts separator cs)
parts_hold Q separator [] keep all = All-cons (All Q) [] [] (All-nil Q) (All-nil (All Q))
parts_hold Q separator (c ∷ cs) keep all =
    let rest = parts_hold Q separator cs keep (All-tail Q c cs all) in
    ⊎_elim
    (λ (here : (c == separator) ≡ true). subst (All (All Q)) (sym (cond-true (c == separator) ([] ∷ parts separator cs) (onto_first c (parts separator cs)) here)) (All-cons (All Q) [] (parts separator cs) (All-nil Q) rest))
    (λ (other : (c == separator) ≡ false). subst (All (All Q)) (sym (cond-false (c == separator) ([] ∷ parts separator cs) (onto_first c (parts separator cs)) other)) (onto_holds Q c (parts separator cs) (All-head Q c cs all) rest))
    (cases_Bool (c == separator))

pub parts_lack : (separator : ℕ) (cs : List ℕ) → All (Lacks separator) (parts separator cs)
parts_lack separator [] = All-cons (Lacks separator) [] [] (All-nil (λ c. c ≢ separator)) (All-nil (Lacks separator))
parts_lack separator (c ∷ cs) =
    let rest = parts_lack separator cs in
    ⊎_elim
    (λ (here : (c == separator) ≡ true). subst (All (Lacks separator)) (sym (cond-true (c == separator) ([] ∷ parts separator cs) (onto_first c (parts separator cs)) here)) (All-cons (Lacks separator) [] (parts separator cs) (All-nil (λ x. x ≢ separator)) rest))
    (λ (other : (c == separator) ≡ false). subst (All (Lacks separator)) (sym (cond-false (c == separator) ([] ∷ parts separator cs) (onto_first c (parts separator cs)) other)) (onto_holds (λ x. x ≢ separator) c (parts separator cs) (eqb-false c separator other) rest))
    (cases_Bool (c == separator))

none_equal : (c : ℕ) (text : List ℕ) → Lacks c text → All (λ b. (b == c) ≡ false) text
none_equal c text none = All-weaker (λ b. b ≢ c) (λ b. (b == c) ≡ false) (λ b ne. ne_eqb b c ne) text none

split_again : (c : ℕ) (p : List ℕ) (ps : List (List ℕ)) → All (Lacks c) (p ∷ ps) → parts c (join_with_byte c (p ∷ ps)) ≡ p ∷ ps
split_again c p [] all = slice_split_none (λ b. b == c) p (none_equal c p (All-head (Lacks c) p [] all))
split_again c p (q ∷ ps) all =
    slice_split_at (λ b. b == c) p c (join_with_byte c (q ∷ ps)) (none_equal c p (All-head (Lacks c) p (q ∷ ps) all)) (eq-eqb c c refl)
    ∙ ap (λ (rest : List (List ℕ)). p ∷ rest) (split_again c q ps (All-tail (Lacks c) p (q ∷ ps) all))

split_back : (c : ℕ) (ps : List (List ℕ)) → 0 < length ps → All (Lacks c) ps → parts c (join_with_byte c ps) ≡ ps
split_back c [] some all = absurd (omega arith)
split_back c (p ∷ ps) some all = split_again c p ps all

joined_holds : (Q : ℕ → Type 0) (separator : ℕ) (ps : List (List ℕ)) → Q separator → All (All Q) ps → All Q (join_with_byte separator ps)
joined_holds Q separator [] h all = All-nil Q
joined_holds Q separator (p ∷ []) h all = All-head (All Q) p [] all
joined_holds Q separator (p ∷ q ∷ ps) h all =
    All-append Q p (separator ∷ join_with_byte separator (q ∷ ps)) (All-head (All Q) p (q ∷ ps) all)
    (All-cons Q separator (join_with_byte separator (q ∷ ps)) h (joined_holds Q separator (q ∷ ps) h (All-tail (All Q) p (q ∷ ps) all)))

all_scalar : (cs : List ℕ) → scalars cs ≡ true → All IsScalar cs
all_scalar [] all = All-nil IsScalar
all_scalar (c ∷ cs) all = let both = and_parts (scalar c) (scalars cs) all in All-cons IsScalar c cs both.0 (all_scalar cs both.1)

are_scalars : (cs : List ℕ) → All IsScalar cs → scalars cs ≡ true
are_scalars [] all = refl
are_scalars (c ∷ cs) all = and_from (scalar c) (scalars cs) (All-head IsScalar c cs all) (are_scalars cs (All-tail IsScalar c cs all))

lacks_of_test : (separator : ℕ) (cs : List ℕ) → is_in cs separator ≡ false → Lacks separator cs
lacks_of_test separator [] none = All-nil (λ c. c ≢ separator)
lacks_of_test separator (c ∷ cs) none =
    let both = or_parts (nat_eq separator c) (is_in cs separator) none in
    All-cons (λ x. x ≢ separator) c cs (λ same. eqb-false separator c both.0 (sym same)) (lacks_of_test separator cs both.1)

-- ---- a line with a value in a field

-- the characters of the fields, with those of the value in one of them
abbrev set_parts : (separator number : ℕ) → (value line : List ℕ) → List (List ℕ)
set_parts separator number value line = set (parts separator (chars line)) (number - 1) (chars value)

some_changed : (b : Bool) (x y : List ℕ) → cond b None (Some x) ≡ Some y → (b ≡ false) × (x ≡ y)
some_changed true x y e = absurd (none-some y e)
some_changed false x y e = (refl, same_Some x y e)

with_parts : (separator number : ℕ) (value line changed : List ℕ) → with_field separator number value line ≡ Some changed
    → (nat_lt (length (fields_of separator line)) number ≡ false) × (joined_fields separator (slice_set (fields_of separator line) (number - 1) value) ≡ changed)
unfolding with_field
with_parts separator number value line changed e =
    some_changed (nat_lt (length (fields_of separator line)) number) (joined_fields separator (slice_set (fields_of separator line) (number - 1) value)) changed e

fields_set : (separator number : ℕ) (value line : List ℕ) → IsUtf8 value → slice_set (fields_of separator line) (number - 1) value ≡ map encode_utf8_all (set_parts separator number value line)
fields_set separator number value line utf8 =
    ap (λ (v : List ℕ). set (fields_of separator line) (number - 1) v) (sym (encodes-chars value utf8))
    ∙ sym (map-set encode_utf8_all (parts separator (chars line)) (number - 1) (chars value))

record IsChanged (separator number : ℕ) (value line changed : List ℕ) : Type 0 where
  enough : nat_lt (length (fields_of separator line)) number ≡ false
  joined : joined_fields separator (slice_set (fields_of separator line) (number - 1) value) ≡ changed
  encoded : changed ≡ encodes (join_with_byte separator (set_parts separator number value line))
  scalar : scalars (join_with_byte separator (set_parts separator number value line)) ≡ true

changed_line : (separator number : ℕ) (value line changed : List ℕ) → IsScalar separator → IsUtf8 value → IsUtf8 line → with_field separator number value line ≡ Some changed
    → IsChanged separator number value line changed
changed_line separator number value line changed scalar_separator utf8 text e =
    let both = with_parts separator number value line changed e in
    let ps = set_parts separator number value line in
    let all : All (All IsScalar) ps =
    All-set (All IsScalar) (parts separator (chars line)) (number - 1) (chars value) (all_scalar (chars value) (scalars-chars value utf8))
    (parts_hold IsScalar separator (chars line) (λ c ne h. h) (all_scalar (chars line) (scalars-chars line text))) in
    record {
      enough = both.0;
      joined = both.1;
      encoded = sym both.1 ∙ ap (joined_fields separator) (fields_set separator number value line utf8) ∙ joined_encoded separator ps;
      scalar = are_scalars (join_with_byte separator ps) (joined_holds IsScalar separator ps scalar_separator all);
    }

pub field_utf8 : (separator number : ℕ) (value line changed : List ℕ) → IsScalar separator → IsUtf8 value → IsUtf8 line → with_field separator number value line ≡ Some changed → IsUtf8 changed
field_utf8 separator number value line changed scalar_separator utf8 text e =
    let is = changed_line separator number value line changed scalar_separator utf8 text e in
    (join_with_byte separator (set_parts separator number value line), (is.scalar, sym is.encoded))

-- the fields of the line are those of the old one, with the value
changed_fields : (separator number : ℕ) (value line changed : List ℕ) → IsUtf8 value → is_in (chars value) separator ≡ false → IsChanged separator number value line changed
    → fields_of separator changed ≡ slice_set (fields_of separator line) (number - 1) value
changed_fields separator number value line changed utf8 apart is =
    let ps = set_parts separator number value line in
    let whole = length-slice_split (λ c. c == separator) (chars line) in
    let long = length-set (parts separator (chars line)) (number - 1) (chars value) in
    let lack : All (Lacks separator) ps =
    All-set (Lacks separator) (parts separator (chars line)) (number - 1) (chars value) (lacks_of_test separator (chars value) apart) (parts_lack separator (chars line)) in
    ap (λ (t : List ℕ). fields_of separator t) is.encoded
    ∙ ap (λ (cs : List ℕ). map encode_utf8_all (parts separator cs)) (chars-encodes (join_with_byte separator ps) is.scalar)
    ∙ ap (map encode_utf8_all) (split_back separator ps (omega (arith, whole, long)) lack)
    ∙ sym (fields_set separator number value line utf8)

-- the same edit leaves it
pub field_again : (separator number : ℕ) (value line changed : List ℕ) → IsScalar separator → IsUtf8 value → is_in (chars value) separator ≡ false → IsUtf8 line
    → with_field separator number value line ≡ Some changed → with_field separator number value changed ≡ Some changed
unfolding with_field
field_again separator number value line changed scalar_separator utf8 apart text e =
    let is = changed_line separator number value line changed scalar_separator utf8 text e in
    let fields = changed_fields separator number value line changed utf8 apart is in
    let old = fields_of separator line in
    let again : List (List ℕ) → Option (List ℕ) = λ (fs : List (List ℕ)). cond (nat_lt (length fs) number) None (Some (joined_fields separator (slice_set fs (number - 1) value))) in
    ap again fields
    ∙ ap (λ (b : Bool). cond b None (Some (joined_fields separator (slice_set (slice_set old (number - 1) value) (number - 1) value))))
    (ap (λ (n : ℕ). nat_lt n number) (length-set old (number - 1) value) ∙ is.enough)
    ∙ ap (λ (fs : List (List ℕ)). Some (joined_fields separator fs)) (set-set old (number - 1) value value)
    ∙ ap Some is.joined

-- ---- a line whose field is the value

is_value : (o : Option (List ℕ)) (value : List ℕ) → is_text o value ≡ true → o ≡ Some value
is_value None value e = absurd (false≢true e)
is_value (Some text) value e = ap Some ((bytes_eq-Decides text value).0 e)

text_is : (text value : List ℕ) → text ≡ value → is_text (Some text) value ≡ true
text_is text value e = (bytes_eq-Decides text value).1 e

fields_joined : (separator : ℕ) (line : List ℕ) → IsUtf8 line → joined_fields separator (fields_of separator line) ≡ line
fields_joined separator line utf8 =
    joined_encoded separator (parts separator (chars line)) ∙ ap encodes (join_with_byte-slice_split separator (chars line)) ∙ encodes-chars line utf8

pub field_stays : (separator number : ℕ) (value line : List ℕ) → 1 ≤ number → IsUtf8 line → has_field separator number value line ≡ true → with_field separator number value line ≡ Some line
unfolding with_field
field_stays separator number value line counted utf8 has =
    let fields = fields_of separator line in
    let is : slice_get fields (number - 1) ≡ Some value = is_value (slice_get fields (number - 1)) value has in
    let inside = slice_get_within fields (number - 1) value is in
    let read : get_or fields (number - 1) value ≡ value = get_or_from_slice_get fields (number - 1) value value is in
    let same : slice_set fields (number - 1) value ≡ fields =
    ap (λ (v : List ℕ). set fields (number - 1) v) (sym read) ∙ set-get_or fields (number - 1) value in
    cond-false (nat_lt (length fields) number) None (Some (joined_fields separator (slice_set fields (number - 1) value))) (le-ltb (length fields) number (omega (arith, inside, counted)))
    ∙ ap (λ (fs : List (List ℕ)). Some (joined_fields separator fs)) same ∙ ap Some (fields_joined separator line utf8)

-- what is set in joined fields without a change stood there
set_behind : (s : List ℕ) (fields : List (List ℕ)) (i : ℕ) (value : List ℕ) → i < length fields
    → flat_map (λ field. s ++ field) (set fields i value) ≡ flat_map (λ field. s ++ field) fields → get_or fields i value ≡ value
set_behind s [] i value inside e = absurd (omega arith)
set_behind s (f ∷ fs) zero value inside e =
    sym (append_cancel_left s value f (append_cancel_right (s ++ value) (s ++ f) (flat_map (λ field. s ++ field) fs) e))
set_behind s (f ∷ fs) (suc i) value inside e =
    set_behind s fs i value (omega arith) (append_cancel_left (s ++ f) (flat_map (λ field. s ++ field) (set fs i value)) (flat_map (λ field. s ++ field) fs) e)

set_same : (separator : ℕ) (fields : List (List ℕ)) (i : ℕ) (value : List ℕ) → i < length fields
    → joined_fields separator (set fields i value) ≡ joined_fields separator fields → get_or fields i value ≡ value
set_same separator [] i value inside e = absurd (omega arith)
set_same separator (f ∷ fs) zero value inside e = sym (append_cancel_right value f (flat_map (λ field. encode separator ++ field) fs) e)
set_same separator (f ∷ fs) (suc i) value inside e =
    set_behind (encode separator) fs i value (omega arith)
    (append_cancel_left f (flat_map (λ field. encode separator ++ field) (set fs i value)) (flat_map (λ field. encode separator ++ field) fs) e)

pub field_stood : (separator number : ℕ) (value line : List ℕ) → 1 ≤ number → IsUtf8 line → with_field separator number value line ≡ Some line → has_field separator number value line ≡ true
field_stood separator number value line counted utf8 e =
    let fields = fields_of separator line in
    let both = with_parts separator number value line line e in
    let many = ltb-false (length fields) number both.0 in
    let inside : number - 1 < length fields = omega (arith, many, counted) in
    let there : get_or fields (number - 1) value ≡ value = set_same separator fields (number - 1) value inside (both.1 ∙ sym (fields_joined separator line utf8)) in
    ap (λ (o : Option (List ℕ)). is_text o value) (slice_get-get_or fields (number - 1) value inside) ∙ text_is (get_or fields (number - 1) value) value there

-- ---- no newline

behind_holds : (P : ℕ → Type 0) (xs ys : List ℕ) → All P (xs ++ ys) → All P ys
behind_holds P xs ys all = subst (All P) (drop_at xs ys (length xs) refl) (All-drop P (length xs) (xs ++ ys) all)

pub chars_one_line : (cs : List ℕ) → IsOneLine (encodes cs) → IsOneLine cs
chars_one_line [] one = All-nil (λ b. b ≢ 10)
chars_one_line (c ∷ cs) one =
    All-cons (λ b. b ≢ 10) c cs
    (λ newline.
    let bytes : encode c ≡ 10 ∷ [] = ap encode newline ∙ encode_ascii 10 (omega arith) in
    All-head (λ b. b ≢ 10) 10 (encodes cs) (subst (λ (t : List ℕ). IsOneLine (t ++ encodes cs)) bytes one) refl)
    (chars_one_line cs (behind_holds (λ b. b ≢ 10) (encode c) (encodes cs) one))

encoded_one_line : (c : ℕ) → c ≢ 10 → IsOneLine (encode c)
encoded_one_line c other =
    All-from_get_or (λ b. b ≢ 10) (encode c) 0
    (λ i lt newline. other (inside_one c [] (encode c) i (sym (append-nil (encode c))) lt (omega (arith, newline)) ∙ newline))

pub bytes_one_line : (cs : List ℕ) → IsOneLine cs → IsOneLine (encodes cs)
bytes_one_line [] one = All-nil (λ b. b ≢ 10)
bytes_one_line (c ∷ cs) one =
    All-append (λ b. b ≢ 10) (encode c) (encodes cs) (encoded_one_line c (All-head (λ b. b ≢ 10) c cs one)) (bytes_one_line cs (All-tail (λ b. b ≢ 10) c cs one))

text_one_line : (text : List ℕ) → IsUtf8 text → IsOneLine text → IsOneLine (chars text)
text_one_line text utf8 one = chars_one_line (chars text) (subst IsOneLine (sym (encodes-chars text utf8)) one)

-- a line isn't cut at newlines, since it has none
joined_one_line : (separator number : ℕ) (value line : List ℕ) → 1 ≤ number → nat_lt (length (fields_of separator line)) number ≡ false → IsOneLine (chars value) → IsOneLine (chars line)
    → IsOneLine (join_with_byte separator (set_parts separator number value line))
joined_one_line separator number value line counted enough single one =
    ⊎_elim
    (λ (newline : separator ≡ 10).
    let whole : parts separator (chars line) ≡ chars line ∷ [] =
    slice_split_none (λ c. c == separator) (chars line) (none_equal separator (chars line) (subst (λ (s : ℕ). Lacks s (chars line)) (sym newline) one)) in
    let few : length (fields_of separator line) ≡ 1 = ap (λ (ps : List (List ℕ)). length (map encode_utf8_all ps)) whole in
    let many = ltb-false (length (fields_of separator line)) number enough in
    let first : number - 1 ≡ 0 = omega (arith, few, many, counted) in
    let alone : set_parts separator number value line ≡ chars value ∷ [] =
    ap (λ (ps : List (List ℕ)). set ps (number - 1) (chars value)) whole ∙ ap (λ (i : ℕ). set (chars line ∷ []) i (chars value)) first in
    subst (λ (ps : List (List ℕ)). IsOneLine (join_with_byte separator ps)) (sym alone) single)
    (λ (other : separator ≢ 10).
    joined_holds (λ b. b ≢ 10) separator (set_parts separator number value line) other
    (All-set (All (λ b. b ≢ 10)) (parts separator (chars line)) (number - 1) (chars value) single (parts_hold (λ b. b ≢ 10) separator (chars line) (λ c ne h. h) one)))
    (cases_eq separator 10)

pub field_one_line : (separator number : ℕ) (value line changed : List ℕ) → 1 ≤ number → IsScalar separator → IsUtf8 value → IsUtf8 line → IsOneLine value → IsOneLine line
    → with_field separator number value line ≡ Some changed → IsOneLine changed
field_one_line separator number value line changed counted scalar_separator utf8 text single one e =
    let is = changed_line separator number value line changed scalar_separator utf8 text e in
    subst IsOneLine (sym is.encoded)
    (bytes_one_line (join_with_byte separator (set_parts separator number value line))
    (joined_one_line separator number value line counted is.enough (text_one_line value utf8 single) (text_one_line line text one)))

-- ---- the test by the changed line

same_test : (a b : Bool) → (a ≡ true → b ≡ true) → (b ≡ true → a ≡ true) → a ≡ b
same_test true b to back = sym (to refl)
same_test false true to back = back refl
same_test false false to back = refl

pub changed_tells : (separator number : ℕ) (value line changed : List ℕ) → 1 ≤ number → IsUtf8 line → Some changed ≡ with_field separator number value line
    → bytes_eq changed line ≡ has_field separator number value line
changed_tells separator number value line changed counted utf8 is =
    same_test (bytes_eq changed line) (has_field separator number value line)
    (λ same. field_stood separator number value line counted utf8 (sym is ∙ ap Some ((bytes_eq-Decides changed line).0 same)))
    (λ has. (bytes_eq-Decides changed line).1 (same_Some changed line (is ∙ field_stays separator number value line counted utf8 has)))

pub none_tells : (separator number : ℕ) (value line : List ℕ) → 1 ≤ number → IsUtf8 line → None ≡ with_field separator number value line → false ≡ has_field separator number value line
none_tells separator number value line counted utf8 is =
    same_test false (has_field separator number value line) (λ e. absurd (false≢true e))
    (λ has. absurd (none-some line (is ∙ field_stays separator number value line counted utf8 has)))
