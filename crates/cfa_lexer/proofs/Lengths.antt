-- How long the token at the front of some bytes is.
use Rattle.std.proofs.Common.{◌≡◌, ℕ, suc, ◌+◌, ◌≤◌, ◌<◌, Bool, true, false, List, [], ◌∷◌, ◌++◌, length, get_or, take, drop, refl, ap, sym, ◌∙◌, subst, ⊎_elim, arith, Some, None}
use Rattle.std.specs.Prelude.{IsTrue, not, ◌==◌}
use Rattle.std.proofs.lemmas.Bool.{both_ways, false_from_ne_true, eqb-true, eq-eqb, ne_eqb, and_parts, cases_Bool, not_from_true, not_from_false, cond-true, cond-false}
use Rattle.std.proofs.lemmas.List.{append_assoc, append-nil, take_more, take-append-drop, length-append, length-take, take_at}
use Rattle.std.specs.List.{list_all, position_or_len}
use Rattle.std.proofs.lemmas.List.Sums.{passes_at_first}
use Rattle.cfa_base.specs.Lexing.{closes, closing_of, is_name, is_name_byte, name_of, is_reference}
use Rattle.cfa_base.specs.lemmas.Taking.{closes_within, Brackets, parentheses, braces, reference_of, reference_from, closing_is_no_name, name_bytes, all_weaker}

-- Behind an opening quote.

-- what was read leaves whether what follows closes the text
abbrev pub Reads : ℕ → List ℕ → Bool → Type 0
Reads quote front behind = (bytes : List ℕ) → closes quote false (front ++ bytes) ≡ closes quote behind bytes

one_more : (quote : ℕ) (bytes : List ℕ) (i : ℕ) (behind : Bool) → i < length bytes → Reads quote (take i bytes) behind → (rest : List ℕ) →
    closes quote false (take (i + 1) bytes ++ rest) ≡ closes quote behind (get_or bytes i 0 ∷ rest)
one_more quote bytes i behind inside so_far rest =
    ap (λ x. closes quote false (x ++ rest)) (take_more bytes i 0 inside)
    ∙ (ap (closes quote false) (append_assoc (take i bytes) (get_or bytes i 0 ∷ []) rest) ∙ so_far (get_or bytes i 0 ∷ rest))

pub reads_behind : (quote : ℕ) (bytes : List ℕ) (i : ℕ) (behind : Bool) → behind ≡ true → i < length bytes → Reads quote (take i bytes) behind → Reads quote (take (i + 1) bytes) false
reads_behind quote bytes i behind is inside so_far rest =
    one_more quote bytes i behind inside so_far rest ∙ ap (λ b. closes quote b (get_or bytes i 0 ∷ rest)) is

pub reads_on : (quote : ℕ) (bytes : List ℕ) (i : ℕ) (behind : Bool) → behind ≡ false → (get_or bytes i 0 ≡ quote → ⊥) → i < length bytes →
    Reads quote (take i bytes) behind → Reads quote (take (i + 1) bytes) (get_or bytes i 0 == 92)
reads_on quote bytes i behind is other inside so_far rest =
    one_more quote bytes i behind inside so_far rest
    ∙ (ap (λ b. closes quote b (get_or bytes i 0 ∷ rest)) is ∙ cond-false (get_or bytes i 0 == quote) _ _ (ne_eqb (get_or bytes i 0) quote other))

pub closed_at : (quote : ℕ) (bytes : List ℕ) (i : ℕ) (behind : Bool) → behind ≡ false → (get_or bytes i 0 == quote) ≡ true → i < length bytes →
    Reads quote (take i bytes) behind → IsTrue (closes quote false (take (i + 1) bytes))
closed_at quote bytes i behind is same inside so_far =
    ap (closes quote false) (sym (append-nil (take (i + 1) bytes)))
    ∙ (one_more quote bytes i behind inside so_far []
    ∙ (ap (λ b. closes quote b (get_or bytes i 0 ∷ [])) is ∙ cond-true (get_or bytes i 0 == quote) _ _ same))

-- some bytes close the text
ending : (quote : ℕ) (behind : Bool) → (b : ℕ) × (bs : List ℕ) × IsTrue (closes quote behind (b ∷ bs))
ending quote true = (quote, quote ∷ [], cond-true (quote == quote) _ _ (eq-eqb quote quote refl))
ending quote false = (quote, [], cond-true (quote == quote) _ _ (eq-eqb quote quote refl))

pub unclosed : (quote : ℕ) (bytes : List ℕ) (behind : Bool) → Reads quote bytes behind → (n : ℕ) → closes quote false (take n bytes) ≡ false
unclosed quote bytes behind all n =
    false_from_ne_true (closes quote false (take n bytes)) (λ closed.
    let end = ending quote behind in
    let within = closes_within quote false (bytes ++ end.0 ∷ end.1) [] (take n bytes) (drop n bytes ++ end.0 ∷ end.1) (all (end.0 ∷ end.1) ∙ end.2) closed
    (append-nil (bytes ++ end.0 ∷ end.1) ∙ (ap (λ x. x ++ end.0 ∷ end.1) (sym (take-append-drop n bytes)) ∙ append_assoc (take n bytes) (drop n bytes) (end.0 ∷ end.1))) in
    omega (arith, length-append bytes (end.0 ∷ end.1), length-take n bytes))

-- References.

pub closing_of_is : {opening closing : ℕ} → Brackets opening closing → closing_of opening ≡ Some closing
closing_of_is parentheses = refl
closing_of_is braces = refl

pub brackets_of : (opening closing : ℕ) → closing_of opening ≡ Some closing → Brackets opening closing
brackets_of opening closing is =
    ⊎_elim
    (λ paren. let same = eqb-true opening 40 paren in
    let closes : Some 41 ≡ Some closing = sym (ap closing_of same) ∙ is in
    let found : 41 ≡ closing = cc in
    subst (λ (o : ℕ). Brackets o closing) (sym same) (subst (Brackets 40) found parentheses))
    (λ none. ⊎_elim
    (λ brace. let same = eqb-true opening 123 brace in
    let closes : Some 125 ≡ Some closing = sym (ap closing_of same) ∙ is in
    let found : 125 ≡ closing = cc in
    subst (λ (o : ℕ). Brackets o closing) (sym same) (subst (Brackets 123) found braces))
    (λ other. let nothing : None ≡ Some closing = sym (cond-false (opening == 40) _ _ none ∙ cond-false (opening == 123) _ _ other) ∙ is in absurd (cc))
    (cases_Bool (opening == 123)))
    (cases_Bool (opening == 40))

-- the first byte that passes stands where what fails ends
pub first_after : (p : ℕ → Bool) (xs : List ℕ) (b : ℕ) (ys : List ℕ) → IsTrue (list_all (λ x. not (p x)) xs) → IsTrue (p b) → position_or_len p (xs ++ b ∷ ys) ≡ length xs
first_after p [] b ys fail passes = cond-false (not (p b)) _ _ (not_from_true (p b) passes)
first_after p (x ∷ xs) b ys fail passes =
    let parts = and_parts (not (p x)) (list_all (λ y. not (p y)) xs) fail in
    let later = first_after p xs b ys parts.1 passes in
    cond-true (not (p x)) _ _ parts.0 ∙ omega (arith, later)

-- the bytes begin with a reference
pub record Referenced (sign : ℕ) (bytes : List ℕ) : Type 0 where
  pub opening : ℕ
  pub closing : ℕ
  pub name : List ℕ
  pub rest : List ℕ
  pub brackets : Brackets opening closing
  pub named : IsTrue (is_name name)
  pub is : bytes ≡ sign ∷ opening ∷ name ++ (closing ∷ rest)

pub referenced : (sign : ℕ) (bytes : List ℕ) (n : ℕ) → IsTrue (is_reference sign (take n bytes)) → Referenced sign bytes
referenced sign bytes n reference =
    let parts = reference_of sign (take n bytes) reference in
    record {
      opening = parts.opening;
      closing = parts.closing;
      name = name_of (take n bytes);
      rest = drop n bytes;
      brackets = parts.brackets;
      named = parts.named;
      is = sym (take-append-drop n bytes) ∙ (ap (λ x. x ++ drop n bytes) parts.is
          ∙ ap (λ x. sign ∷ parts.opening ∷ x) (append_assoc (name_of (take n bytes)) (parts.closing ∷ []) (drop n bytes)));
    }

-- a name ends before the bracket that closes it
pub name_ends : {opening closing : ℕ} (name rest : List ℕ) → Brackets opening closing → IsTrue (is_name name) → position_or_len (λ b. b == closing) (name ++ closing ∷ rest) ≡ length name
name_ends {opening} {closing} name rest brackets named =
    first_after (λ b. b == closing) name closing rest
    (all_weaker is_name_byte (λ b. not (b == closing)) (λ b passes. not_from_false (b == closing) (false_from_ne_true (b == closing) (λ same.
    both_ways (is_name_byte closing) (closing_is_no_name brackets) (subst (λ (x : ℕ). IsTrue (is_name_byte x)) (eqb-true b closing same) passes)))) name (name_bytes name named))
    (eq-eqb closing closing refl)

-- what the bytes of a reference are: the bracket behind the sign, and a name up to the bracket that closes it
pub reads_reference : (sign : ℕ) (bytes : List ℕ) → Referenced sign bytes →
    (2 ≤ length bytes) × ((closing : ℕ) × (closing_of (get_or bytes 1 0) ≡ Some closing) × (position_or_len (λ b. b == closing) (drop 2 bytes) < length (drop 2 bytes))
    × IsTrue (is_name (take (position_or_len (λ b. b == closing) (drop 2 bytes)) (drop 2 bytes))))
reads_reference sign bytes r =
    subst Reading (sym r.is) (
      omega arith,
      (
        r.closing,
        closing_of_is r.brackets,
        (omega (arith, ends, length-append r.name (r.closing ∷ r.rest))),
        subst (λ (x : List ℕ). IsTrue (is_name x)) (sym (ap (λ n. take n (r.name ++ r.closing ∷ r.rest)) ends ∙ take_at r.name (r.closing ∷ r.rest) (length r.name) refl)) r.named,
      ),
    )
  where
    ends : position_or_len (λ b. b == r.closing) (r.name ++ r.closing ∷ r.rest) ≡ length r.name
    ends = name_ends r.name r.rest r.brackets r.named

    Reading : List ℕ → Type 0
    Reading bytes = (2 ≤ length bytes) × ((closing : ℕ) × (closing_of (get_or bytes 1 0) ≡ Some closing) × (position_or_len (λ b. b == closing) (drop 2 bytes) < length (drop 2 bytes))
        × IsTrue (is_name (take (position_or_len (λ b. b == closing) (drop 2 bytes)) (drop 2 bytes))))

-- the three ways in which the front is no reference
pub no_reference_in : (bytes : List ℕ) (sign : ℕ) → (Referenced sign bytes → ⊥) → (n : ℕ) → is_reference sign (take n bytes) ≡ false
no_reference_in bytes sign none n = false_from_ne_true (is_reference sign (take n bytes)) (λ reference. none (referenced sign bytes n reference))

pub too_short : (bytes : List ℕ) (sign : ℕ) → length bytes < 2 → Referenced sign bytes → ⊥
too_short bytes sign short r = omega (arith, (reads_reference sign bytes r).0)

pub no_bracket : (bytes : List ℕ) (sign : ℕ) → closing_of (get_or bytes 1 0) ≡ None → Referenced sign bytes → ⊥
no_bracket bytes sign none r = let found = (reads_reference sign bytes r).1.1 in let impossible : None ≡ Some (reads_reference sign bytes r).1.0 = sym none ∙ found in cc

pub no_name : (bytes inner : List ℕ) (sign closing len : ℕ) → inner ≡ drop 2 bytes → closing_of (get_or bytes 1 0) ≡ Some closing →
    len ≡ position_or_len (λ b. b == closing) inner → (len < length inner → is_name (take len inner) ≡ false) → Referenced sign bytes → ⊥
no_name bytes inner sign closing len rest is at none r =
    let reads = (reads_reference sign bytes r).1 in
    let same : Some reads.0 ≡ Some closing = sym reads.1 ∙ is in
    let closes : closing ≡ reads.0 = cc in
    let there : position_or_len (λ b. b == reads.0) (drop 2 bytes) ≡ len =
    ap (position_or_len (λ b. b == reads.0)) (sym rest) ∙ (ap (λ c. position_or_len (λ b. b == c) inner) (sym closes) ∙ sym at) in
    let inside : len < length inner = subst (λ (x : List ℕ). len < length x) (sym rest) (subst (λ (n : ℕ). n < length (drop 2 bytes)) there reads.2) in
    let named : IsTrue (is_name (take len inner)) = subst (λ (x : List ℕ). IsTrue (is_name (take len x))) (sym rest) (subst (λ (n : ℕ). IsTrue (is_name (take n (drop 2 bytes)))) there reads.3) in
    both_ways (is_name (take len inner)) (none inside) named

-- where a name stands up to its bracket the front is a reference
reference_there : (bytes : List ℕ) (closing len : ℕ) → 2 ≤ length bytes → closing_of (get_or bytes 1 0) ≡ Some closing →
    len ≡ position_or_len (λ b. b == closing) (drop 2 bytes) → len < length (drop 2 bytes) → IsTrue (is_name (take len (drop 2 bytes))) →
    (len + 3 ≤ length bytes) × IsTrue (is_reference (get_or bytes 0 0) (take (len + 3) bytes))
reference_there [] closing len long is at inside named = absurd (omega arith)
reference_there (sign ∷ []) closing len long is at inside named = absurd (omega arith)
reference_there (sign ∷ opening ∷ inner) closing len long is at inside named =
    let closes : get_or inner len 0 ≡ closing = eqb-true (get_or inner len 0) closing (ap (λ n. get_or inner n 0 == closing) at ∙ passes_at_first (λ b. b == closing) inner 0 (subst (λ (n : ℕ). n < length inner) at inside)) in
    let three : len + 3 ≡ suc (suc (len + 1)) = omega arith in
    let front : take (len + 3) (sign ∷ opening ∷ inner) ≡ sign ∷ opening ∷ take len inner ++ closing ∷ [] =
    ap (λ n. take n (sign ∷ opening ∷ inner)) three ∙ (ap (λ x. sign ∷ opening ∷ x) (take_more inner len 0 inside) ∙ ap (λ b. sign ∷ opening ∷ take len inner ++ b ∷ []) closes) in
    (omega arith, subst (λ (x : List ℕ). IsTrue (is_reference sign x)) (sym front) (reference_from sign opening closing (take len inner) (brackets_of opening closing is) named))

pub is_reference_there : (bytes inner : List ℕ) (closing len : ℕ) → inner ≡ drop 2 bytes → 2 ≤ length bytes → closing_of (get_or bytes 1 0) ≡ Some closing →
    len ≡ position_or_len (λ b. b == closing) inner → len < length inner → IsTrue (is_name (take len inner)) →
    (len + 3 ≤ length bytes) × IsTrue (is_reference (get_or bytes 0 0) (take (len + 3) bytes))
is_reference_there bytes inner closing len rest long is at inside named =
    reference_there bytes closing len long is (at ∙ ap (position_or_len (λ b. b == closing)) rest)
    (subst (λ (x : List ℕ). len < length x) rest inside) (subst (λ (x : List ℕ). IsTrue (is_name (take len x))) rest named)
