-- The path that a text names is its own path.
use Rattle.std.proofs.Common.{◌≡◌, ◌≢◌, ℕ, suc, ◌-◌, eqb, Bool, true, false, cond, ◌&&◌, not, List, [], ◌∷◌, ◌++◌, length, get_or, filter, Some, None, refl, sym, ap, subst, ◌∙◌, arith}
use Rattle.std.proofs.lemmas.Bool.{false≢true, and_from, and_parts, not-true}
use Rattle.std.proofs.lemmas.Bool.Decides.{nat_tests}
use Rattle.std.specs.Prelude.{nat_le}
use Rattle.std.specs.List.{list_all, slice_split, onto_first}
use Rattle.cfa_outside.specs.Paths.{is_rooted, components, is_component, joined, path_of}

abbrev is_slash : ℕ → Bool
is_slash b = eqb b 47

abbrev is_part : List ℕ → Bool
is_part part = not (eqb (length part) 0)

-- no byte is a slash
abbrev Plain : List ℕ → Type 0
Plain [] = Unit {0}
Plain (b ∷ bs) = (is_slash b ≡ false) × Plain bs

abbrev AllPlain : List (List ℕ) → Type 0
AllPlain [] = Unit {0}
AllPlain (part ∷ parts) = Plain part × AllPlain parts

-- a text with a first byte isn't empty
has_bytes : (b : ℕ) (bs : List ℕ) → not (eqb (length (b ∷ bs)) 0) ≡ true
has_bytes b bs = let some : length (b ∷ bs) ≡ suc (length bs) = refl in grind (arith, nat_tests)

-- a text without a slash before a text that begins with one
split_plain : (part rest : List ℕ) (parts : List (List ℕ)) → Plain part → slice_split is_slash rest ≡ [] ∷ parts → slice_split is_slash (part ++ rest) ≡ part ∷ parts
split_plain [] rest parts plain is = is
split_plain (b ∷ bs) rest parts plain is =
    ap (λ c. cond c ([] ∷ slice_split is_slash (bs ++ rest)) (onto_first b (slice_split is_slash (bs ++ rest)))) plain.0
    ∙ ap (onto_first b) (split_plain bs rest parts plain.1 is)

split_joined : (parts : List (List ℕ)) → AllPlain parts → slice_split is_slash (joined parts) ≡ [] ∷ parts
split_joined [] plain = refl
split_joined (part ∷ parts) plain =
    ap (λ (rest : List (List ℕ)). [] ∷ rest) (split_plain part (joined parts) parts plain.0 (split_joined parts plain.1))

onto_plain : (b : ℕ) (parts : List (List ℕ)) → is_slash b ≡ false → AllPlain parts → AllPlain (onto_first b parts)
onto_plain b [] free plain = ((free, tt), tt)
onto_plain b (part ∷ parts) free plain = ((free, plain.0), plain.1)

pieces_plain : (text : List ℕ) → AllPlain (slice_split is_slash text)
pieces_plain [] = (tt, tt)
pieces_plain (b ∷ bs) =
    elim (is_slash b) as (λ c. is_slash b ≡ c → AllPlain (cond c ([] ∷ slice_split is_slash bs) (onto_first b (slice_split is_slash bs)))) [
      | true ↦ λ _. (tt, pieces_plain bs)
      | false ↦ λ free. onto_plain b (slice_split is_slash bs) free (pieces_plain bs)
    ] refl

filter_plain : (parts : List (List ℕ)) → AllPlain parts → AllPlain (filter is_part parts)
filter_plain [] plain = tt
filter_plain (part ∷ parts) plain =
    elim (is_part part) as (λ c. AllPlain (cond c (part ∷ filter is_part parts) (filter is_part parts))) [
      | true ↦ (plain.0, filter_plain parts plain.1)
      | false ↦ filter_plain parts plain.1
    ]

filter_again : (parts : List (List ℕ)) → filter is_part (filter is_part parts) ≡ filter is_part parts
filter_again [] = refl
filter_again (part ∷ parts) =
    elim (is_part part) as (λ c. is_part part ≡ c → filter is_part (cond c (part ∷ filter is_part parts) (filter is_part parts)) ≡ cond c (part ∷ filter is_part parts) (filter is_part parts)) [
      | true ↦ λ yes. ap (λ c. cond c (part ∷ filter is_part (filter is_part parts)) (filter is_part (filter is_part parts))) yes ∙ ap (λ (rest : List (List ℕ)). part ∷ rest) (filter_again parts)
      | false ↦ λ _. filter_again parts
    ] refl

components_plain : (text : List ℕ) → AllPlain (components text)
components_plain text = filter_plain (slice_split is_slash text) (pieces_plain text)

components_again : (text : List ℕ) → components (joined (components text)) ≡ components text
components_again text =
    ap (filter is_part) (split_joined (components text) (components_plain text)) ∙ filter_again (slice_split is_slash text)

-- whether the last byte of a text with this first byte is a slash
abbrev ends_in_slash : ℕ → List ℕ → Bool
ends_in_slash b [] = is_slash b
ends_in_slash b (c ∷ cs) = ends_in_slash c cs

last_byte : (b : ℕ) (bs : List ℕ) → eqb (get_or (b ∷ bs) (length (b ∷ bs) - 1) 0) 47 ≡ ends_in_slash b bs
last_byte b [] = refl
last_byte b (c ∷ cs) =
    let back : length (b ∷ c ∷ cs) - 1 ≡ suc (length (c ∷ cs) - 1) = omega arith in
    ap (λ i. eqb (get_or (b ∷ c ∷ cs) i 0) 47) back ∙ last_byte c cs

-- the last byte is that of what follows a text without a slash, or of that text
through : (b : ℕ) (bs rest : List ℕ) → is_slash b ≡ false → Plain bs → ((c : ℕ) → is_slash c ≡ false → ends_in_slash c rest ≡ false) → ends_in_slash b (bs ++ rest) ≡ false
through b [] rest free plain after = after b free
through b (c ∷ cs) rest free plain after = through c cs rest plain.0 plain.1 after

abbrev AllParts : List (List ℕ) → Type 0
AllParts [] = Unit {0}
AllParts (part ∷ parts) = (is_part part ≡ true) × AllParts parts

filter_parts : (parts : List (List ℕ)) → AllParts (filter is_part parts)
filter_parts [] = tt
filter_parts (part ∷ parts) =
    elim (is_part part) as (λ c. is_part part ≡ c → AllParts (cond c (part ∷ filter is_part parts) (filter is_part parts))) [
      | true ↦ λ yes. (yes, filter_parts parts)
      | false ↦ λ _. filter_parts parts
    ] refl

ends_joined : (parts : List (List ℕ)) → AllPlain parts → AllParts parts → (b : ℕ) → is_slash b ≡ false → ends_in_slash b (joined parts) ≡ false
ends_joined [] plain some b free = free
ends_joined ([] ∷ parts) plain some b free = absurd (false≢true some.0)
ends_joined ((c ∷ cs) ∷ parts) plain some b free =
    through c cs (joined parts) plain.0.0 plain.0.1 (λ d other. ends_joined parts plain.1 some.1 d other)

rooted_joined : (parts : List (List ℕ)) → AllPlain parts → AllParts parts → parts ≢ [] → is_rooted (joined parts) ≡ true
rooted_joined [] plain some more = absurd (more refl)
rooted_joined ([] ∷ parts) plain some more = absurd (false≢true some.0)
rooted_joined ((c ∷ cs) ∷ parts) plain some more =
    let last = last_byte 47 (c ∷ cs ++ joined parts) in
    let plain_end = through c cs (joined parts) plain.0.0 plain.0.1 (λ d other. ends_joined parts plain.1 some.1 d other) in
    and_from (not (eqb (length (joined ((c ∷ cs) ∷ parts))) 0)) _ (has_bytes 47 (c ∷ cs ++ joined parts)) (ap not (last ∙ plain_end))

onto_some : (b : ℕ) (parts : List (List ℕ)) → filter is_part (onto_first b parts) ≢ []
onto_some b [] e = cc
onto_some b (part ∷ parts) e =
    let yes : is_part (b ∷ part) ≡ true = has_bytes b part in
    let was = sym (ap (λ c. cond c ((b ∷ part) ∷ filter is_part parts) (filter is_part parts)) yes) ∙ e in
    cc

-- a text that doesn't end with a slash has a component
some_component : (b : ℕ) (bs : List ℕ) → ends_in_slash b bs ≡ false → components (b ∷ bs) ≢ []
some_component b [] ends none = onto_some b (slice_split is_slash []) (sym (ap (λ d. filter is_part (cond d ([] ∷ slice_split is_slash []) (onto_first b (slice_split is_slash [])))) ends) ∙ none)
some_component b (c ∷ cs) ends none =
    elim (is_slash b) as (λ d. filter is_part (cond d ([] ∷ slice_split is_slash (c ∷ cs)) (onto_first b (slice_split is_slash (c ∷ cs)))) ≡ [] → ⊥) [
      | true ↦ λ rest. some_component c cs ends rest
      | false ↦ λ rest. onto_some b (slice_split is_slash (c ∷ cs)) rest
    ] none

rooted_has : (text : List ℕ) → is_rooted text ≡ true → components text ≢ []
rooted_has [] rooted = absurd (false≢true rooted)
rooted_has (b ∷ bs) rooted =
    let whole = and_parts (not (eqb (length (b ∷ bs)) 0)) (eqb b 47 && not (eqb (get_or (b ∷ bs) (length (b ∷ bs) - 1) 0) 47)) rooted in
    let ends = and_parts (eqb b 47) (not (eqb (get_or (b ∷ bs) (length (b ∷ bs) - 1) 0) 47)) whole.1 in
    some_component b bs (sym (last_byte b bs) ∙ not-true (eqb (get_or (b ∷ bs) (length (b ∷ bs) - 1) 0) 47) ends.1)

rooted_again : (text : List ℕ) → is_rooted text ≡ true → is_rooted (joined (components text)) ≡ true
rooted_again text rooted = rooted_joined (components text) (components_plain text) (filter_parts (slice_split is_slash text)) (rooted_has text rooted)

-- what reads as a path is the path of its components
named : (text path : List ℕ) → (reads : Bool) → cond reads (Some (joined (components text))) None ≡ Some path → (reads ≡ true) × (joined (components text) ≡ path)
named text path true e = let same : joined (components text) ≡ path = cc in (refl, same)
named text path false e = cc

abbrev reads : List ℕ → Bool
reads text = (is_rooted text && list_all is_component (components text)) && nat_le (length (joined (components text))) 1024

reads_again : (text : List ℕ) → reads text ≡ true → reads (joined (components text)) ≡ true
reads_again text is =
    let whole = and_parts (is_rooted text && list_all is_component (components text)) (nat_le (length (joined (components text))) 1024) is in
    let parts = and_parts (is_rooted text) (list_all is_component (components text)) whole.0 in
    let again = components_again text in
    and_from (is_rooted (joined (components text)) && list_all is_component (components (joined (components text)))) _
    (and_from (is_rooted (joined (components text))) _ (rooted_again text parts.0) (ap (list_all is_component) again ∙ parts.1))
    (ap (λ (ps : List (List ℕ)). nat_le (length (joined ps)) 1024) again ∙ whole.1)

pub path_again : (text path : List ℕ) → path_of text ≡ Some path → path_of path ≡ Some path
unfolding path_of
path_again text path is =
    let found = named text path (reads text) is in
    let again : cond (reads (joined (components text))) (Some (joined (components (joined (components text))))) None ≡ Some (joined (components text)) =
    ap (λ c. cond c (Some (joined (components (joined (components text))))) None) (reads_again text found.0)
    ∙ ap (λ (ps : List (List ℕ)). Some (joined ps)) (components_again text) in
    subst (λ (p : List ℕ). cond (reads p) (Some (joined (components p))) None ≡ Some p) found.1 again
