-- A name, or a pair of names, is listed where an index has a place of it.
use Rattle.std.proofs.Common.{◌≡◌, ℕ, ◌+◌, true, false, cond, ◌||◌, List, [], ◌∷◌, Some, is_some, refl, sym, ap, ◌∙◌}
use Rattle.std.proofs.lemmas.Iterator.Adapters.{position_from-zero}
use Rattle.std.specs.List.{position_from}
use Rattle.std.specs.Str.{bytes_eq}
use Rattle.cfa_base.specs.Index.{Text, is_listed, place_of, same_pair, pair_place_of}
use Rattle.cfa_base.specs.lemmas.EqualTexts.{texts_turned}
use Rattle.cfa_uses.specs.Naming.{is_pair_listed}

listed_from : (names : List Text) (name : Text) (i : ℕ) → is_listed names name ≡ is_some (position_from (λ other. bytes_eq name other) i names)
listed_from [] name i = refl
listed_from (other ∷ names) name i =
    ap (λ b. b || is_listed names name) (texts_turned other name) ∙
    elim (bytes_eq name other) as (λ b. (b || is_listed names name) ≡ is_some (cond b (Some i) (position_from (λ other. bytes_eq name other) (i + 1) names))) [
      | true ↦ refl
      | false ↦ listed_from names name (i + 1)
    ]

pub listed_by_place : (names : List Text) (name : Text) → is_listed names name ≡ is_some (place_of names name)
listed_by_place names name = listed_from names name 0 ∙ ap is_some (sym (position_from-zero (λ other. bytes_eq name other) names))

pair_listed_from : (pairs : List (Text × Text)) (pair : Text × Text) (i : ℕ) → is_pair_listed pairs pair ≡ is_some (position_from (λ other. same_pair pair other) i pairs)
pair_listed_from [] pair i = refl
pair_listed_from (other ∷ pairs) pair i =
    elim (same_pair pair other) as (λ b. (b || is_pair_listed pairs pair) ≡ is_some (cond b (Some i) (position_from (λ other. same_pair pair other) (i + 1) pairs))) [
      | true ↦ refl
      | false ↦ pair_listed_from pairs pair (i + 1)
    ]

pub pair_listed_by_place : (pairs : List (Text × Text)) (pair : Text × Text) → is_pair_listed pairs pair ≡ is_some (pair_place_of pairs pair)
pair_listed_by_place pairs pair = pair_listed_from pairs pair 0 ∙ ap is_some (sym (position_from-zero (λ other. same_pair pair other) pairs))
