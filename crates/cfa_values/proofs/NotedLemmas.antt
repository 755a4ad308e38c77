-- Noting names that stand before already.
use Rattle.std.proofs.Common.{◌≡◌, ◌<◌, ◌+◌, ℕ, Bool, List, [], ◌∷◌, ◌++◌, length, drop, get_or, map, Option, ap, sym, ◌∙◌}
use Rattle.std.specs.Prelude.{not, is_none}
use Rattle.std.proofs.lemmas.List.{drop_more}
use Rattle.cfa_values.specs.declared.refusals.Refusal.{Refusal}
use Rattle.cfa_values.specs.declared.items.Item.{Item}
use Rattle.cfa_base.specs.Index.{place_of}
use Rattle.cfa_values.specs.Definitions.{is_one_of}
use Rattle.cfa_values.specs.Refusals.{noted, only_if}
use Rattle.cfa_values.specs.Kept.{seen_item}
use Rattle.cfa_values.specs.Values.{repeated_after}
use Rattle.cfa_values.proofs.LookupLemmas.{is_new_name}
use Rattle.cfa_values.specs.Noted.{noted_both}
use Rattle.cfa_values.specs.declared.refusals.Code.TheVariants.{Duplicate}

-- a name that stands before already is noted
pub repeated_more : (names more : List (List ℕ)) (xs : List Item) (i : ℕ) (d : Item) (first next : Option Refusal) (is_new : Bool) → i < length xs →
    more ≡ names ++ (get_or xs i d).name.now ∷ [] → is_new ≡ is_none (place_of names (get_or xs i d).name.now) →
    next ≡ noted first (only_if (not is_new) Duplicate (get_or xs i d).place) →
    noted next (repeated_after more (map seen_item (drop (i + 1) xs))) ≡ noted first (repeated_after names (map seen_item (drop i xs)))
repeated_more names more xs i d first next is_new h m n e =
    let item = get_or xs i d in
    let here = only_if (is_one_of item.name.now names) Duplicate item.place in
    let rest = map seen_item (drop (i + 1) xs) in
    ap (λ o. noted o (repeated_after more rest)) (e ∙ ap (λ b. noted first (only_if b Duplicate item.place)) (ap not n ∙ is_new_name item.name.now names))
    ∙ ap (λ ns. noted (noted first here) (repeated_after ns rest)) m
    ∙ sym (noted_both first here (repeated_after (names ++ item.name.now ∷ []) rest))
    ∙ ap (λ ys. noted first (repeated_after names (map seen_item ys))) (sym (drop_more xs i d h))
