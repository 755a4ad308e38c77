-- The promises that ids name are those of the words of types with promises, without the words.
use Rattle.std.proofs.Common.{cond, true, false, ◌≡◌, ◌-◌, ℕ, List, [], ◌∷◌, ◌++◌, map, refl, ap, sym, ◌∙◌}
use Rattle.std.specs.Prelude.{Option, Some, None, option_map, slice_get, ◌==◌, nat_lt, Bool}
use Rattle.std.specs.List.{flat_map}
use Rattle.std.proofs.lemmas.List.{map-append}
use Rattle.std.proofs.lemmas.Option.{slice_get-map}
use Rattle.cfa_tree.specs.Tree.{PromiseTree, bundle, body, PolicyTree, SectionTree}
use Rattle.cfa_served.specs.Checked.{promises_of, worded_promises_of, given_in_bundle, on_line, word_on_line, promise_of, worded_promise_of}
use Rattle.cfa_base.specs.declared.places.PromiseId.{PromiseId}
use Rattle.std.specs.Str.{bytes_eq}

-- a promise with the word of its type
abbrev pub pair_with : List ℕ → PromiseTree → List ℕ × PromiseTree
pair_with word p = (word, p)

-- without their words they are the promises
abbrev pub second : List ℕ × PromiseTree → PromiseTree
second x = x.1

seconds_of : (word : List ℕ) (ps : List PromiseTree) → map second (map (pair_with word) ps) ≡ ps
seconds_of word [] = refl
seconds_of word (p ∷ ps) = ap (λ rest. p ∷ rest) (seconds_of word ps)

pub seconds_in : (sections : List SectionTree) → map second (flat_map worded_promises_of sections) ≡ flat_map promises_of sections
seconds_in [] = refl
seconds_in (s ∷ rest) =
    map-append second (worded_promises_of s) (flat_map worded_promises_of rest)
    ∙ ap (λ ps. ps ++ map second (flat_map worded_promises_of rest)) (seconds_of s.kind s.promises)
    ∙ ap (λ ps. s.promises ++ ps) (seconds_in rest)

seconds_given : (name : List ℕ) (policy : PolicyTree) → map second (given_in_bundle worded_promises_of name policy) ≡ given_in_bundle promises_of name policy
seconds_given name [] = refl
seconds_given name (bundle type_name named params sections place ∷ rest) =
    elim (bytes_eq name named.name) as (λ b. map second (cond b (flat_map worded_promises_of sections) (given_in_bundle worded_promises_of name rest)) ≡ cond b (flat_map promises_of sections) (given_in_bundle promises_of name rest))
    [ true ↦ seconds_in sections | false ↦ seconds_given name rest ]
seconds_given name (body type_name named params attributes place ∷ rest) = seconds_given name rest

second_on_line : (line : ℕ) (o : Option (List ℕ × PromiseTree)) → option_map second (word_on_line line o) ≡ on_line line (option_map second o)
second_on_line line None = refl
second_on_line line (Some x) = elim (x.1.place.line == line) as (λ b. option_map second (cond b (Some x) None) ≡ cond b (Some x.1) None) [ true ↦ refl | false ↦ refl ]

by_number : (policy : PolicyTree) (id : PromiseId) (b : Bool) →
    option_map second (cond b (word_on_line id.line (slice_get (given_in_bundle worded_promises_of id.bundle policy) (id.number - 1))) None)
    ≡ cond b (on_line id.line (slice_get (given_in_bundle promises_of id.bundle policy) (id.number - 1))) None
by_number policy id true =
    second_on_line id.line (slice_get (given_in_bundle worded_promises_of id.bundle policy) (id.number - 1))
    ∙ ap (on_line id.line) (sym (slice_get-map second (given_in_bundle worded_promises_of id.bundle policy) (id.number - 1)) ∙ ap (λ ps. slice_get ps (id.number - 1)) (seconds_given id.bundle policy))
by_number policy id false = refl

pub second_is : (policy : PolicyTree) (id : PromiseId) → option_map second (worded_promise_of policy id) ≡ promise_of policy id
unfolding worded_promise_of promise_of
second_is policy id = by_number policy id (nat_lt 0 id.number)
