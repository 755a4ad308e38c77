-- The characters of a line, where a value stands for one of its fields, are the fields with the value set, joined.
use Rattle.std.proofs.Common.{◌≡◌, ℕ, ◌+◌, ◌-◌, ◌<◌, ◌≤◌, true, false, List, [], ◌∷◌, ◌++◌, length, map, Some, None, refl, sym, ap, ◌∙◌, arith, ⊎_elim, zero, suc}
use Rattle.std.specs.Prelude.{◌==◌, if◌then◌else◌, slice_set, encode_utf8, encode_utf8_all, nat_lt}
use Rattle.std.specs.List.{slice_split, onto_first, flat_map, count_by}
use Rattle.std.proofs.lemmas.Bool.{cases_Bool, cond-true, cond-false, lt-ltb, le-ltb, eqb-true, eq-eqb}
use Rattle.std.proofs.lemmas.Bool.Decides.{nat_tests}
use Rattle.std.proofs.lemmas.List.{append_assoc, length-map}
use Rattle.std.specs.Str.{chars}
use Rattle.std.proofs.lemmas.List.Splits.{length-slice_split}
use Rattle.cfa_edits.specs.Edits.{fields_of, joined_fields, with_field}
use Rattle.cfa_edits.specs.Steps.{written_from}

abbrev parts_of : ℕ → List ℕ → List (List ℕ)
parts_of separator cs = slice_split (λ c. c == separator) cs

abbrev texts_of : ℕ → List ℕ → List (List ℕ)
texts_of separator cs = map encode_utf8_all (parts_of separator cs)

-- joined behind a first one
abbrev behind : ℕ → List (List ℕ) → List ℕ
behind separator fields = flat_map (λ field. encode_utf8 separator ++ field) fields

-- the parts of a list: a first one and more
pub record Parts (separator : ℕ) (cs first : List ℕ) (more : List (List ℕ)) : Type 0 where
  pub are : parts_of separator cs ≡ first ∷ more

pub parts : (separator : ℕ) (cs : List ℕ) → (first : List ℕ) × (more : List (List ℕ)) × Parts separator cs first more
parts separator [] = ([], [], record { are = refl })
parts separator (c ∷ cs) =
    let rest = parts separator cs in
    let first = rest.0 in
    let more = rest.1 in
    ⊎_elim
    (λ here. ([], first ∷ more, record { are = cond-true (c == separator) ([] ∷ parts_of separator cs) (onto_first c (parts_of separator cs)) here ∙ ap (λ ps. [] ∷ ps) rest.2.are }))
    (λ other. (c ∷ first, more, record { are = cond-false (c == separator) ([] ∷ parts_of separator cs) (onto_first c (parts_of separator cs)) other ∙ ap (λ ps. onto_first c ps) rest.2.are }))
    (cases_Bool (c == separator))

joined_next : (separator : ℕ) (field : List ℕ) (more : List (List ℕ)) → joined_fields separator ([] ∷ field ∷ more) ≡ encode_utf8 separator ++ joined_fields separator (field ∷ more)
joined_next separator field more = append_assoc (encode_utf8 separator) field (behind separator more)

joined_front : (separator : ℕ) (bytes field : List ℕ) (more : List (List ℕ)) → joined_fields separator ((bytes ++ field) ∷ more) ≡ bytes ++ joined_fields separator (field ∷ more)
joined_front separator bytes field more = append_assoc bytes field (behind separator more)

texts_are : (separator : ℕ) (cs first : List ℕ) (more : List (List ℕ)) → Parts separator cs first more → texts_of separator cs ≡ encode_utf8_all first ∷ map encode_utf8_all more
texts_are separator cs first more p = ap (map encode_utf8_all) p.are

texts_at : (separator c : ℕ) (cs : List ℕ) → (c == separator) ≡ true → texts_of separator (c ∷ cs) ≡ [] ∷ texts_of separator cs
texts_at separator c cs here = ap (map encode_utf8_all) (cond-true (c == separator) ([] ∷ parts_of separator cs) (onto_first c (parts_of separator cs)) here)

texts_in : (separator c : ℕ) (cs first : List ℕ) (more : List (List ℕ)) → Parts separator cs first more → (c == separator) ≡ false
    → texts_of separator (c ∷ cs) ≡ (encode_utf8 c ++ encode_utf8_all first) ∷ map encode_utf8_all more
texts_in separator c cs first more p other =
    ap (map encode_utf8_all) (cond-false (c == separator) ([] ∷ parts_of separator cs) (onto_first c (parts_of separator cs)) other ∙ ap (onto_first c) p.are)

not_same : (k n : ℕ) → n < k → (k == n) ≡ false
not_same k n lt = grind (arith, nat_tests)

not_yet : (k n : ℕ) → k < n → (k == n) ≡ false
not_yet k n lt = grind (arith, nat_tests)

-- the two ways to write one character on
at_separator : (separator n : ℕ) (value : List ℕ) (k c : ℕ) (cs : List ℕ) → (c == separator) ≡ true
    → written_from separator n value k (c ∷ cs) ≡ encode_utf8 separator ++ ((if k + 1 == n then value else []) ++ written_from separator n value (k + 1) cs)
at_separator separator n value k c cs here =
    cond-true (c == separator) _ _ here ∙ ap (λ d. encode_utf8 d ++ ((if k + 1 == n then value else []) ++ written_from separator n value (k + 1) cs)) (eqb-true c separator here)

in_field : (separator n : ℕ) (value : List ℕ) (k c : ℕ) (cs : List ℕ) → (c == separator) ≡ false
    → written_from separator n value k (c ∷ cs) ≡ (if k == n then [] else encode_utf8 c) ++ written_from separator n value k cs
in_field separator n value k c cs other = cond-false (c == separator) _ _ other

-- behind the field
past : (separator n : ℕ) (value : List ℕ) (k : ℕ) (cs : List ℕ) → n < k → written_from separator n value k cs ≡ joined_fields separator (texts_of separator cs)
past separator n value k [] lt = refl
past separator n value k (c ∷ cs) lt =
    let p = parts separator cs in
    let ih = past separator n value (k + 1) cs (omega arith) in
    let ih' = past separator n value k cs lt in
    ⊎_elim
    (λ here. at_separator separator n value k c cs here
    ∙ ap (λ b. encode_utf8 separator ++ ((if b then value else []) ++ written_from separator n value (k + 1) cs)) (not_same (k + 1) n (omega arith))
    ∙ ap (λ x. encode_utf8 separator ++ x) (ih ∙ ap (joined_fields separator) (texts_are separator cs p.0 p.1 p.2))
    ∙ sym (joined_next separator (encode_utf8_all p.0) (map encode_utf8_all p.1))
    ∙ ap (λ fields. joined_fields separator ([] ∷ fields)) (sym (texts_are separator cs p.0 p.1 p.2))
    ∙ ap (joined_fields separator) (sym (texts_at separator c cs here)))
    (λ other. in_field separator n value k c cs other
    ∙ ap (λ b. (if b then [] else encode_utf8 c) ++ written_from separator n value k cs) (not_same k n lt)
    ∙ ap (λ x. encode_utf8 c ++ x) (ih' ∙ ap (joined_fields separator) (texts_are separator cs p.0 p.1 p.2))
    ∙ sym (joined_front separator (encode_utf8 c) (encode_utf8_all p.0) (map encode_utf8_all p.1))
    ∙ ap (joined_fields separator) (sym (texts_in separator c cs p.0 p.1 p.2 other)))
    (cases_Bool (c == separator))

-- in the field: its own characters aren't written
inside : (separator n : ℕ) (value : List ℕ) (cs first : List ℕ) (more : List (List ℕ)) → Parts separator cs first more
    → written_from separator n value n cs ≡ behind separator (map encode_utf8_all more)
inside separator n value [] first more q =
    let none : more ≡ [] = let e = q.are in cc in
    ap (λ ms. behind separator (map encode_utf8_all ms)) (sym none)
inside separator n value (c ∷ cs) first more q =
    let p = parts separator cs in
    ⊎_elim
    (λ here.
    let e : [] ∷ parts_of separator cs ≡ first ∷ more = sym (cond-true (c == separator) ([] ∷ parts_of separator cs) (onto_first c (parts_of separator cs)) here) ∙ q.are in
    let same : parts_of separator cs ≡ more = cc in
    at_separator separator n value n c cs here
    ∙ ap (λ b. encode_utf8 separator ++ ((if b then value else []) ++ written_from separator n value (n + 1) cs)) (not_same (n + 1) n (omega arith))
    ∙ ap (λ x. encode_utf8 separator ++ x) (past separator n value (n + 1) cs (omega arith) ∙ ap (joined_fields separator) (texts_are separator cs p.0 p.1 p.2))
    ∙ sym (joined_next separator (encode_utf8_all p.0) (map encode_utf8_all p.1))
    ∙ ap (λ ps. behind separator (map encode_utf8_all ps)) (sym p.2.are ∙ same))
    (λ other.
    let e : onto_first c (p.0 ∷ p.1) ≡ first ∷ more = ap (onto_first c) (sym p.2.are) ∙ sym (cond-false (c == separator) ([] ∷ parts_of separator cs) (onto_first c (parts_of separator cs)) other) ∙ q.are in
    let same : p.1 ≡ more = cc in
    in_field separator n value n c cs other
    ∙ ap (λ b. (if b then [] else encode_utf8 c) ++ written_from separator n value n cs) (eq-eqb n n refl)
    ∙ inside separator n value cs p.0 p.1 p.2
    ∙ ap (λ ms. behind separator (map encode_utf8_all ms)) same)
    (cases_Bool (c == separator))

-- before the field
below : (separator n : ℕ) (value : List ℕ) (k m : ℕ) (cs : List ℕ) → n ≡ k + suc m
    → written_from separator n value k cs ≡ joined_fields separator (slice_set (texts_of separator cs) (suc m) value)
below separator n value k m [] e = refl
below separator n value k zero (c ∷ cs) e =
    let p = parts separator cs in
    let next : k + 1 ≡ n = omega arith in
    ⊎_elim
    (λ here. at_separator separator n value k c cs here
    ∙ ap (λ i. encode_utf8 separator ++ ((if i == n then value else []) ++ written_from separator n value i cs)) next
    ∙ ap (λ b. encode_utf8 separator ++ ((if b then value else []) ++ written_from separator n value n cs)) (eq-eqb n n refl)
    ∙ ap (λ x. encode_utf8 separator ++ (value ++ x)) (inside separator n value cs p.0 p.1 p.2)
    ∙ sym (joined_next separator value (map encode_utf8_all p.1))
    ∙ ap (λ fields. joined_fields separator (slice_set ([] ∷ fields) 1 value)) (sym (texts_are separator cs p.0 p.1 p.2))
    ∙ ap (λ fields. joined_fields separator (slice_set fields 1 value)) (sym (texts_at separator c cs here)))
    (λ other. in_field separator n value k c cs other
    ∙ ap (λ b. (if b then [] else encode_utf8 c) ++ written_from separator n value k cs) (not_yet k n (omega arith))
    ∙ ap (λ x. encode_utf8 c ++ x) (below separator n value k zero cs e ∙ ap (λ fields. joined_fields separator (slice_set fields 1 value)) (texts_are separator cs p.0 p.1 p.2))
    ∙ sym (joined_front separator (encode_utf8 c) (encode_utf8_all p.0) (slice_set (map encode_utf8_all p.1) 0 value))
    ∙ ap (λ fields. joined_fields separator (slice_set fields 1 value)) (sym (texts_in separator c cs p.0 p.1 p.2 other)))
    (cases_Bool (c == separator))
below separator n value k (suc m) (c ∷ cs) e =
    let p = parts separator cs in
    let texts = texts_are separator cs p.0 p.1 p.2 in
    ⊎_elim
    (λ here. at_separator separator n value k c cs here
    ∙ ap (λ b. encode_utf8 separator ++ ((if b then value else []) ++ written_from separator n value (k + 1) cs)) (not_yet (k + 1) n (omega arith))
    ∙ ap (λ x. encode_utf8 separator ++ x) (below separator n value (k + 1) m cs (omega arith) ∙ ap (λ fields. joined_fields separator (slice_set fields (suc m) value)) texts)
    ∙ sym (joined_next separator (encode_utf8_all p.0) (slice_set (map encode_utf8_all p.1) m value))
    ∙ ap (λ fields. joined_fields separator (slice_set ([] ∷ fields) (suc (suc m)) value)) (sym texts)
    ∙ ap (λ fields. joined_fields separator (slice_set fields (suc (suc m)) value)) (sym (texts_at separator c cs here)))
    (λ other. in_field separator n value k c cs other
    ∙ ap (λ b. (if b then [] else encode_utf8 c) ++ written_from separator n value k cs) (not_yet k n (omega arith))
    ∙ ap (λ x. encode_utf8 c ++ x) (below separator n value k (suc m) cs e ∙ ap (λ fields. joined_fields separator (slice_set fields (suc (suc m)) value)) texts)
    ∙ sym (joined_front separator (encode_utf8 c) (encode_utf8_all p.0) (slice_set (map encode_utf8_all p.1) (suc m) value))
    ∙ ap (λ fields. joined_fields separator (slice_set fields (suc (suc m)) value)) (sym (texts_in separator c cs p.0 p.1 p.2 other)))
    (cases_Bool (c == separator))

-- a line whose field has a value, written character by character
pub written_is : (separator n : ℕ) (value cs : List ℕ) → (m : ℕ) → n ≡ suc m
    → (if n == 1 then value else []) ++ written_from separator n value 1 cs ≡ joined_fields separator (slice_set (texts_of separator cs) (n - 1) value)
written_is separator n value cs zero e =
    let p = parts separator cs in
    let one : n ≡ 1 = omega arith in
    let first : n - 1 ≡ 0 = omega arith in
    ap (λ i. (if i == 1 then value else []) ++ written_from separator i value 1 cs) one
    ∙ ap (λ x. value ++ x) (inside separator 1 value cs p.0 p.1 p.2)
    ∙ ap (λ fields. joined_fields separator (slice_set fields 0 value)) (sym (texts_are separator cs p.0 p.1 p.2))
    ∙ ap (λ i. joined_fields separator (slice_set (texts_of separator cs) i value)) (sym first)
written_is separator n value cs (suc m) e =
    let more : n - 1 ≡ suc m = omega arith in
    ap (λ b. (if b then value else []) ++ written_from separator n value 1 cs) (not_same n 1 (omega arith))
    ∙ below separator n value 1 m cs (omega arith)
    ∙ ap (λ i. joined_fields separator (slice_set (texts_of separator cs) i value)) (sym more)

fields_count : (separator : ℕ) (line : List ℕ) → length (fields_of separator line) ≡ count_by (λ c. c == separator) (chars line) + 1
fields_count separator line =
    length-map (parts_of separator (chars line)) encode_utf8_all ∙ length-slice_split (λ c. c == separator) (chars line)

pub with_few : (separator number : ℕ) (value line : List ℕ) → count_by (λ c. c == separator) (chars line) < number - 1 → with_field separator number value line ≡ None
unfolding with_field
with_few separator number value line few =
    cond-true (nat_lt (length (fields_of separator line)) number) None _ (lt-ltb (length (fields_of separator line)) number (omega (arith, fields_count separator line)))

pub with_enough : (separator number : ℕ) (value line : List ℕ) → number - 1 ≤ count_by (λ c. c == separator) (chars line) → 1 ≤ number
    → with_field separator number value line ≡ Some ((if number == 1 then value else []) ++ written_from separator number value 1 (chars line))
unfolding with_field
with_enough separator number value line enough some =
    cond-false (nat_lt (length (fields_of separator line)) number) None _ (le-ltb (length (fields_of separator line)) number (omega (arith, fields_count separator line)))
    ∙ ap Some (sym (written_is separator number value (chars line) (number - 1) (omega arith)))
