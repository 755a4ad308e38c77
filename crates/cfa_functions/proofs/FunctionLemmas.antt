-- What functions make of their arguments, step by step.
use Rattle.std.proofs.Common.{◌≡◌, ◌<◌, ◌≤◌, ◌+◌, ◌^◌, ℕ, zero, suc, true, false, cond, ◌&&◌, ltb, ⊎_elim, List, [], ◌∷◌, ◌++◌, length, take, get_or, eqb, Some, None, Ok, Err, ap, sym, ◌∙◌, arith, add-one}
use Rattle.std.specs.List.{flat_map, slice_get}
use Rattle.std.specs.Option.{option_and_then}
use Rattle.std.specs.Str.{all_ascii_digits}
use Rattle.std.specs.Str.Parse.{ParsesUnsigned, digits_value}
use Rattle.std.proofs.lemmas.Str.Parse.{parse_digits}
use Rattle.std.proofs.lemmas.Option.{slice_get_past}
use Rattle.std.proofs.lemmas.Bool.{cases_lt, and_parts}
use Rattle.std.proofs.lemmas.Bool.Decides.{nat_tests}
use borrow.Author.Tests.{ltb-true}
use Rattle.std.proofs.lemmas.List.{append_assoc, append-nil, take_more, flat_map_more}
use Rattle.cfa_base.specs.Joined.{joined}
use Rattle.cfa_base.specs.Decimals.{is_decimal}
use Rattle.cfa_base.specs.lemmas.Numerals.{numerals}
use Rattle.cfa_functions.specs.Functions.{item_at}

-- the first item stands without glue
pub joined_first : (glue : List ℕ) (items : List (List ℕ)) (item : List ℕ) → 0 < length items → item ≡ get_or items 0 item → [] ++ item ≡ joined glue (take (0 + 1) items)
joined_first glue [] item h is = absurd (omega arith)
joined_first glue (x ∷ xs) item h is = is ∙ sym (append-nil x)

next : (j : ℕ) → j + 1 ≡ suc j
next j = omega arith

-- each item behind it has the glue before it
pub joined_more : (glue : List ℕ) (items : List (List ℕ)) (i : ℕ) (item : List ℕ) → 0 < i → i < length items → item ≡ get_or items i item → (joined glue (take i items) ++ glue) ++ item ≡ joined glue (take (i + 1) items)
joined_more glue [] i item above h is = absurd (omega arith)
joined_more glue (x ∷ xs) zero item above h is = absurd (omega arith)
joined_more glue (x ∷ xs) (suc j) item above h is =
    rw (add-one) (append_assoc (x ++ flat_map (λ next. glue ++ next) (take j xs)) glue item
    ∙ flat_map_more (λ next. glue ++ next) x (take j xs) item
    ∙ ap (λ t. x ++ flat_map (λ next. glue ++ next) t) (ap (λ y. take j xs ++ y ∷ []) is ∙ sym (take_more xs j item (omega arith)) ∙ ap (λ n. take n xs) (next j)))

not_first : (j : ℕ) → eqb (suc j) 0 ≡ false
not_first j = grind (arith, nat_tests)

-- an item with what stands before it
pub joined_step : (glue : List ℕ) (items : List (List ℕ)) (i : ℕ) (item before whole : List ℕ) → i < length items → item ≡ get_or items i item → before ≡ cond (eqb i 0) [] glue → whole ≡ joined glue (take i items) → (whole ++ before) ++ item ≡ joined glue (take (i + 1) items)
joined_step glue items zero item before whole h is b w = ap (λ t. (t ++ before) ++ item) w ∙ ap (λ t. ([] ++ t) ++ item) b ∙ joined_first glue items item h is
joined_step glue items (suc j) item before whole h is b w = ap (λ t. (t ++ before) ++ item) w ∙ ap (λ t. (joined glue (take (suc j) items) ++ t) ++ item) (b ∙ ap (λ t. cond t [] glue) (not_first j)) ∙ joined_more glue items (suc j) item (omega arith) h is

-- a number is digits, at least one
is_digits : (text : List ℕ) → is_decimal text ≡ true → (0 < length text) × (all_ascii_digits text ≡ true)
is_digits text h =
    let whole = and_parts (ltb 0 (length text) && all_ascii_digits text) _ h in
    let parts = and_parts (ltb 0 (length text)) (all_ascii_digits text) whole.0 in
    (ltb-true _ _ parts.0, parts.1)

item_of_number : (items : List (List ℕ)) (text : List ℕ) → is_decimal text ≡ true → item_at items text ≡ slice_get items (digits_value 10 text)
unfolding item_at
item_of_number items text h = ap (λ b. option_and_then (λ place. slice_get items place) (cond b (Some (digits_value 10 text)) None)) h

-- the item at the place that digits are the number of
pub item_found : (items : List (List ℕ)) (text bytes : List ℕ) (place : ℕ) → bytes ≡ text → true ≡ is_decimal bytes → ParsesUnsigned {E = ℕ} 64 10 text (Ok place) → slice_get items place ≡ item_at items text
item_found items text bytes place same h p =
    let number : is_decimal text ≡ true = sym (h ∙ ap is_decimal same) in
    let read = parse_digits numerals {E = ℕ} 64 text (Ok place) p (is_digits text number).1 in
    ap (slice_get items) read.1 ∙ sym (item_of_number items text number)

-- a number of 2 ^ 64 or more is no place
pub item_past : (E : Type 0) (items : List (List ℕ)) (text bytes : List ℕ) (e : E) → bytes ≡ text → true ≡ is_decimal bytes → length items < 2 ^ 64 → ParsesUnsigned {E = E} 64 10 text (Err e) → None ≡ item_at items text
item_past E items text bytes e same h short p =
    let number : is_decimal text ≡ true = sym (h ∙ ap is_decimal same) in
    let digits = is_digits text number in
    let no = parse_digits numerals {E = E} 64 text (Err e) p digits.1 in
    let past : length items ≤ digits_value 10 text = ⊎_elim (λ below. absurd (no (digits.0, below))) (λ above. omega arith) (cases_lt (digits_value 10 text) (2 ^ 64)) in
    sym (item_of_number items text number ∙ slice_get_past items (digits_value 10 text) past)
