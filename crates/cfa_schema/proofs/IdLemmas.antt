-- The list of the ids of promises has just the ids that are found.
use Rattle.std.proofs.Common.{◌≡◌, ◌∙◌, ℕ, zero, suc, ◌+◌, ◌-◌, Bool, true, false, List, [], ◌∷◌, ◌++◌, length, get_or, map, All, Option, Some, None, refl, ap, sym, subst, arith, append_assoc}
use Rattle.std.specs.Prelude.{◌==◌, ◌||◌, if◌then◌else◌, option_map, option_and_then, slice_get, nat_lt}
use Rattle.std.specs.List.{Contains, flat_map, filter_map, list_any}
use Rattle.std.specs.Str.{bytes_eq}
use Rattle.std.proofs.lemmas.Slice.Eq.{bytes_eq-Decides}
use Rattle.std.proofs.lemmas.Bool.{eq-eqb, or_parts}
use Rattle.std.proofs.lemmas.Bool.Decides.{nat_tests}
use Rattle.std.proofs.lemmas.List.{length-append}
use Rattle.std.proofs.lemmas.List.Elements.{All-append, All-cons, All-contains, All-contains_itself, All-get_or, All-head, All-map, All-nil, All-tail, All-weaker, Contains-append_left, Contains-append_right}
use Rattle.cfa_base.specs.declared.places.Place.{Place}
use Rattle.cfa_base.specs.declared.places.PromiseId.{PromiseId}
use Rattle.cfa_base.specs.lemmas.Lists.{none_left, none_right, first_here}
use Rattle.cfa_tree.specs.Tree.{PromiseTree, SectionTree, NamedTree, BlockTree, bundle, body, PolicyTree}
use Rattle.cfa_kinds.specs.declared.kinds.BundleType.{BundleType}
use Rattle.cfa_kinds.specs.declared.kinds.PromiseType.{PromiseType}
use Rattle.cfa_kinds.specs.Kinds.{bundle_type, is_foreign_bundle_type, promise_type, is_foreign_promise_type}
use Rattle.cfa_values.specs.Refusals.{only_if}
use Rattle.cfa_values.specs.Definitions.{is_one_of}
use Rattle.cfa_values.specs.declared.refusals.Code.TheVariants.{Duplicate}
use Rattle.cfa_values.specs.Scope.{in_bundle}
use Rattle.cfa_values.specs.Values.{Setting, repeated, repeated_after}
use Rattle.cfa_served.specs.Checked.{id_at, promises_of, worded_promises_of, given_in_bundle, on_line, word_on_line, promise_of, worded_promise_of, typed, ids_from, ids_in_block, promise_ids_of}
use Rattle.cfa_schema.specs.Valid.{Valid, bundle_name, bundle_by, section_by, section_refusals, block_refusals}
use Rattle.cfa_schema.specs.Defined.{definitions_of}
use Rattle.cfa_schema.specs.Laws.{ListedIdsAreFound, FoundIdsAreListed}
use Rattle.cfa_served.specs.lemmas.Promises.{second, second_is, seconds_in}
use Rattle.cfa_schema.specs.lemmas.Passing.{names_pass, block_passes, never_other}

-- ---- an id that is found is in the list

id_listed : (name : List ℕ) (first : ℕ) (ps : List PromiseTree) (n : ℕ) (p : PromiseTree) → slice_get ps n ≡ Some p → Contains (ids_from name first ps) (id_at name (first + n) p.place.line)
id_listed name first [] n p e = cc
id_listed name first (q ∷ ps) zero p e =
    subst (λ n. Contains (ids_from name first (q ∷ ps)) (id_at name n p.place.line)) (let same : first ≡ first + 0 = omega arith in same)
    (subst (λ x. Contains (ids_from name first (q ∷ ps)) (id_at name first x.place.line)) (let same : q ≡ p = cc in same) (first_here (id_at name first q.place.line) (ids_from name (first + 1) ps)))
id_listed name first (q ∷ ps) (suc n) p e =
    Contains-append_right (id_at name first q.place.line ∷ []) (ids_from name (first + 1) ps) (id_at name (first + suc n) p.place.line)
    (subst (λ m. Contains (ids_from name (first + 1) ps) (id_at name m p.place.line)) (let same : (first + 1) + n ≡ first + suc n = omega arith in same) (id_listed name (first + 1) ps n p e))

abbrev Listed : List ℕ → PolicyTree → ℕ → PromiseTree → Type 0
Listed name policy n p = Contains (flat_map ids_in_block policy) (id_at name (1 + n) p.place.line)

given_here : (name found : List ℕ) (sections : List SectionTree) (rest : PolicyTree) (n : ℕ) (p : PromiseTree) (b : Bool) → bytes_eq name found ≡ b →
    slice_get (if b then flat_map promises_of sections else given_in_bundle promises_of name rest) n ≡ Some p →
    (slice_get (given_in_bundle promises_of name rest) n ≡ Some p → Listed name rest n p) →
    Contains (ids_from found 1 (flat_map promises_of sections) ++ flat_map ids_in_block rest) (id_at name (1 + n) p.place.line)
given_here name found sections rest n p true is e more =
    Contains-append_left (ids_from found 1 (flat_map promises_of sections)) (flat_map ids_in_block rest) (id_at name (1 + n) p.place.line)
    (subst (λ (x : List ℕ). Contains (ids_from found 1 (flat_map promises_of sections)) (id_at x (1 + n) p.place.line)) (sym ((bytes_eq-Decides name found).0 is))
    (id_listed found 1 (flat_map promises_of sections) n p e))
given_here name found sections rest n p false is e more =
    Contains-append_right (ids_from found 1 (flat_map promises_of sections)) (flat_map ids_in_block rest) (id_at name (1 + n) p.place.line) (more e)

given_listed : (name : List ℕ) (policy : PolicyTree) (n : ℕ) (p : PromiseTree) → slice_get (given_in_bundle promises_of name policy) n ≡ Some p → Listed name policy n p
given_listed name [] n p e = cc
given_listed name (bundle type_name named params sections place ∷ rest) n p e =
    given_here name named.name sections rest n p (bytes_eq name named.name) refl e (given_listed name rest n p)
given_listed name (body type_name named params attributes place ∷ rest) n p e = given_listed name rest n p e

-- a promise on a line
record IsOnLine (line : ℕ) (found : Option PromiseTree) (p : PromiseTree) : Type 0 where
  here : found ≡ Some p
  is : p.place.line ≡ line

on_line_by : (line : ℕ) (q p : PromiseTree) (b : Bool) → (q.place.line == line) ≡ b → (if b then Some q else None) ≡ Some p → IsOnLine line (Some q) p
on_line_by line q p true is e =
    let same : q ≡ p = cc in
    record { here = ap Some same; is = ap (λ x. x.place.line) (sym same) ∙ grind (arith, nat_tests) }
on_line_by line q p false is e = cc

on_line_is : (line : ℕ) (found : Option PromiseTree) (p : PromiseTree) → on_line line found ≡ Some p → IsOnLine line found p
on_line_is line None p e = cc
on_line_is line (Some q) p e = on_line_by line q p (q.place.line == line) refl e

found_by : (policy : PolicyTree) (id : PromiseId) (p : PromiseTree) (b : Bool) → nat_lt 0 id.number ≡ b →
    (if b then on_line id.line (slice_get (given_in_bundle promises_of id.bundle policy) (id.number - 1)) else None) ≡ Some p →
    Contains (flat_map ids_in_block policy) id
found_by policy id p true counted e =
    let on = on_line_is id.line (slice_get (given_in_bundle promises_of id.bundle policy) (id.number - 1)) p e in
    let listed = given_listed id.bundle policy (id.number - 1) p on.here in
    let number : 1 + (id.number - 1) ≡ id.number = grind (arith, nat_tests) in
    subst (λ n. Contains (flat_map ids_in_block policy) (id_at id.bundle n id.line)) number
    (subst (λ line. Contains (flat_map ids_in_block policy) (id_at id.bundle (1 + (id.number - 1)) line)) on.is listed)
found_by policy id p false counted e = cc

pub found_ids_are_listed : FoundIdsAreListed
unfolding promise_of promise_ids_of
found_ids_are_listed policy id p e = found_by policy id p (nat_lt 0 id.number) refl e

-- ---- an id of the list is found

abbrev Worded : Type 0
Worded = List ℕ × PromiseTree

abbrev HasType : Worded → Type 0
HasType x = (type : PromiseType) × (promise_type x.0 ≡ Some type)

-- the id stands for a promise of some of a bundle
record StandsFor (all : List Worded) (id : PromiseId) : Type 0 where
  found : Worded
  counted : nat_lt 0 id.number ≡ true
  here : slice_get all (id.number - 1) ≡ Some found
  line : (found.1.place.line == id.line) ≡ true
  has_type : HasType found

get_behind : {X : Type 0} (before : List X) (x : X) (after : List X) → slice_get (before ++ x ∷ after) (length before) ≡ Some x
get_behind [] x after = refl
get_behind (y ∷ before) x after = get_behind before x after

is_counted : (n : ℕ) → nat_lt 0 (n + 1) ≡ true
is_counted n = grind (arith, nat_tests)

abbrev InBundle : List ℕ → List Worded → PromiseId → Type 0
InBundle name all id = (id.bundle ≡ name) × StandsFor all id

ids_stand : (name : List ℕ) (before after all : List Worded) → all ≡ before ++ after → All HasType after →
    All (InBundle name all) (ids_from name (length before + 1) (map second after))
ids_stand name before [] all e typed = All-nil (InBundle name all)
ids_stand name before (x ∷ after) all e typed =
    let count : length (before ++ x ∷ []) ≡ length before + 1 = length-append before (x ∷ []) in
    let number : (length before + 1) - 1 ≡ length before = omega arith in
    All-cons (InBundle name all) (id_at name (length before + 1) x.1.place.line) (ids_from name (length before + 1 + 1) (map second after)) (
      refl,
      record {
        found = x;
        counted = is_counted (length before);
        here = ap (λ n. slice_get all n) number ∙ ap (λ (xs : List Worded). slice_get xs (length before)) e ∙ get_behind before x after;
        line = eq-eqb x.1.place.line x.1.place.line refl;
        has_type = All-head HasType x after typed;
      },
    )
    (subst (λ n. All (InBundle name all) (ids_from name (n + 1) (map second after))) count
    (ids_stand name (before ++ x ∷ []) after all (e ∙ sym (append_assoc before (x ∷ []) after)) (All-tail HasType x after typed)))

-- names that aren't repeated
any_both : (test : List ℕ → Bool) (xs : List (List ℕ)) (x : List ℕ) → list_any test (xs ++ x ∷ []) ≡ false → (list_any test xs ≡ false) × (test x ≡ false)
any_both test [] x e = (refl, (or_parts (test x) false e).0)
any_both test (y ∷ xs) x e =
    let both = or_parts (test y) (list_any test (xs ++ x ∷ [])) e in
    let more = any_both test xs x both.1 in
    (ap (λ b. b || list_any test xs) both.0 ∙ more.0, more.1)

pub only_none : (b : Bool) (place : Place) → only_if b Duplicate place ≡ [] → b ≡ false
only_none true place e = cc
only_none false place e = refl

abbrev IsNew : List (List ℕ) → PromiseId → Type 0
IsNew before id = is_one_of id.bundle before ≡ false

in_bundle_new : (before : List (List ℕ)) (name : List ℕ) (first : ℕ) (ps : List PromiseTree) → is_one_of name before ≡ false → All (IsNew before) (ids_from name first ps)
in_bundle_new before name first [] new = All-nil (IsNew before)
in_bundle_new before name first (p ∷ ps) new =
    All-cons (IsNew before) (id_at name first p.place.line) (ids_from name (first + 1) ps) new (in_bundle_new before name (first + 1) ps new)

ids_new : (before : List (List ℕ)) (policy : PolicyTree) → repeated_after before (filter_map bundle_name policy) ≡ [] → All (IsNew before) (flat_map ids_in_block policy)
ids_new before [] e = All-nil (IsNew before)
ids_new before (bundle type_name named params sections place ∷ rest) e =
    let here = only_if (is_one_of named.name before) Duplicate named.place in
    let behind = repeated_after (before ++ named.name ∷ []) (filter_map bundle_name rest) in
    All-append (IsNew before) (ids_from named.name 1 (flat_map promises_of sections)) (flat_map ids_in_block rest)
    (in_bundle_new before named.name 1 (flat_map promises_of sections) (only_none (is_one_of named.name before) named.place (none_left here behind e)))
    (All-weaker (IsNew (before ++ named.name ∷ [])) (IsNew before) (λ id new. (any_both (bytes_eq id.bundle) before named.name new).0) (flat_map ids_in_block rest)
    (ids_new (before ++ named.name ∷ []) rest (none_right here behind e)))
ids_new before (body type_name named params attributes place ∷ rest) e = ids_new before rest e

-- each promise of a bundle has a type
abbrev AllTyped : BlockTree → Type 0
AllTyped (bundle type_name named params sections place) = All HasType (flat_map worded_promises_of sections)
AllTyped (body type_name named params attributes place) = Unit {0}

abbrev Stands : PolicyTree → PromiseId → Type 0
Stands policy id = StandsFor (given_in_bundle worded_promises_of id.bundle policy) id

stands_first : (type_name named : NamedTree) (params : List NamedTree) (sections : List SectionTree) (place : Place) (rest : PolicyTree) (id : PromiseId) →
    InBundle named.name (flat_map worded_promises_of sections) id → Stands (bundle type_name named params sections place ∷ rest) id
stands_first type_name named params sections place rest id is =
    subst (λ all. StandsFor all id)
    (sym (ap (λ b. if b then flat_map worded_promises_of sections else given_in_bundle worded_promises_of id.bundle rest) ((bytes_eq-Decides id.bundle named.name).1 is.0))) is.1

stands_behind : (type_name named : NamedTree) (params : List NamedTree) (sections : List SectionTree) (place : Place) (rest : PolicyTree) (id : PromiseId) →
    bytes_eq id.bundle named.name ≡ false → Stands rest id → Stands (bundle type_name named params sections place ∷ rest) id
stands_behind type_name named params sections place rest id other is =
    subst (λ all. StandsFor all id)
    (sym (ap (λ b. if b then flat_map worded_promises_of sections else given_in_bundle worded_promises_of id.bundle rest) other)) is

all_stand : (before : List (List ℕ)) (policy : PolicyTree) → repeated_after before (filter_map bundle_name policy) ≡ [] → All AllTyped policy →
    All (Stands policy) (flat_map ids_in_block policy)
all_stand before [] e typed = All-nil (Stands [])
all_stand before (bundle type_name named params sections place ∷ rest) e typed =
    let whole : PolicyTree = bundle type_name named params sections place ∷ rest in
    let behind = none_right (only_if (is_one_of named.name before) Duplicate named.place) (repeated_after (before ++ named.name ∷ []) (filter_map bundle_name rest)) e in
    let new = ids_new (before ++ named.name ∷ []) rest behind in
    let more = all_stand (before ++ named.name ∷ []) rest behind (All-tail AllTyped (bundle type_name named params sections place) rest typed) in
    All-append (Stands whole) (ids_from named.name 1 (flat_map promises_of sections)) (flat_map ids_in_block rest)
    (All-weaker (InBundle named.name (flat_map worded_promises_of sections)) (Stands whole) (stands_first type_name named params sections place rest) (ids_from named.name 1 (flat_map promises_of sections))
    (subst (λ ps. All (InBundle named.name (flat_map worded_promises_of sections)) (ids_from named.name 1 ps)) (seconds_in sections)
    (ids_stand named.name [] (flat_map worded_promises_of sections) (flat_map worded_promises_of sections) refl (All-head AllTyped (bundle type_name named params sections place) rest typed))))
    (λ k d h. stands_behind type_name named params sections place rest (get_or (flat_map ids_in_block rest) k d)
    (any_both (bytes_eq (get_or (flat_map ids_in_block rest) k d).bundle) before named.name (new k d h)).1 (more k d h))
all_stand before (body type_name named params attributes place ∷ rest) e typed =
    all_stand before rest e (All-tail AllTyped (body type_name named params attributes place) rest typed)

section_typed : (s : Setting) (within : BundleType) (section : SectionTree) (found : Option PromiseType) → promise_type section.kind ≡ found → section_by s within section found ≡ [] →
    All HasType (worded_promises_of section)
section_typed s within section None is e = absurd (never_other (is_foreign_promise_type section.kind) section.place e)
section_typed s within section (Some type) is e =
    All-map HasType (λ p. (section.kind, p)) section.promises (λ k d h. (type, is))

sections_typed : (s : Setting) (within : BundleType) (sections : List SectionTree) → flat_map (section_refusals s within) sections ≡ [] → All HasType (flat_map worded_promises_of sections)
sections_typed s within [] e = All-nil HasType
sections_typed s within (section ∷ rest) e =
    let here = section_refusals s within section in
    let behind = flat_map (section_refusals s within) rest in
    All-append HasType (worded_promises_of section) (flat_map worded_promises_of rest)
    (section_typed s within section (promise_type section.kind) refl (none_left here behind e))
    (sections_typed s within rest (none_right here behind e))

bundle_typed : (s : Setting) (type_name : NamedTree) (sections : List SectionTree) (found : Option BundleType) → bundle_by s type_name sections found ≡ [] → All HasType (flat_map worded_promises_of sections)
bundle_typed s type_name sections None e = absurd (never_other (is_foreign_bundle_type type_name.name) type_name.place e)
bundle_typed s type_name sections (Some type) e = sections_typed s type sections e

block_typed : (policy : PolicyTree) (b : BlockTree) → block_refusals (definitions_of policy) b ≡ [] → AllTyped b
block_typed policy (bundle type_name named params sections place) e =
    let s : Setting = record { definitions = definitions_of policy; home = in_bundle named.name } in
    bundle_typed s type_name sections (bundle_type type_name.name) (none_right (repeated params) (bundle_by s type_name sections (bundle_type type_name.name)) e)
block_typed policy (body type_name named params attributes place) e = tt

policy_typed : (policy : PolicyTree) → Valid policy → All AllTyped policy
policy_typed policy valid =
    λ k d h. block_typed policy (get_or policy k d) (block_passes policy (get_or policy k d) valid (All-get_or (Contains policy) policy k d h (All-contains_itself policy)))

worded_is : (policy : PolicyTree) (id : PromiseId) → (is : Stands policy id) → worded_promise_of policy id ≡ Some is.found
unfolding worded_promise_of
worded_is policy id is =
    ap (λ b. if b then word_on_line id.line (slice_get (given_in_bundle worded_promises_of id.bundle policy) (id.number - 1)) else None) is.counted
    ∙ ap (word_on_line id.line) is.here
    ∙ ap (λ b. if b then Some is.found else None) is.line

pub listed_ids_are_found : ListedIdsAreFound
unfolding promise_ids_of
listed_ids_are_found policy id valid listed =
    let is = All-contains (Stands policy) (flat_map ids_in_block policy) id (all_stand [] policy (names_pass policy valid) (policy_typed policy valid)) listed in
    let worded = worded_is policy id is in (
      (is.has_type.0, is.found.1),
      ap (option_and_then typed) worded ∙ ap (option_map (λ (type : PromiseType). (type, is.found.1))) is.has_type.1,
      sym (second_is policy id) ∙ ap (option_map second) worded,
    )
