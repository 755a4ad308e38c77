-- That shared names are plain is a proposition, and the ids of promises are counted.
use Rattle.std.proofs.Common.{ℕ, ◌+◌, false, List, [], ◌∷◌, map, All, Option, Some, None, sym, subst}
use Rattle.std.specs.List.{cons_option, flat_map}
use Rattle.std.proofs.Math.Bool.{Bool-set}
use Rattle.std.proofs.Math.Bridge.{le_prop}
use Rattle.std.proofs.lemmas.List.Elements.{All-cons, All-contains, All-head, All-nil, All-tail}
use Rattle.cfa_base.specs.lemmas.Lists.{all_flat}
use Rattle.cfa_kinds.specs.declared.kinds.PromiseType.{PromiseType}
use Rattle.cfa_kinds.specs.Kinds.{promise_type}
use Rattle.cfa_served.specs.Checked.{worded_promises_of, ids_from, ids_in_block, promise_ids_of}
use Rattle.cfa_served.specs.lemmas.Promises.{second, seconds_in}
use Rattle.cfa_schema.specs.Laws.{IsCounted, IdsAreCounted, NamedBundleStands}
use Rattle.cfa_schema.specs.Sourced.{IsSourced}
use Rattle.cfa_tree.specs.Tree.{PromiseTree, BlockTree, bundle, body, PolicyTree}
use Rattle.cfa_base.specs.Index.{is_listed}
use Rattle.cfa_visits.specs.Bundles.{HasCountedIds, AreCounted}
use Rattle.cfa_states.specs.Levels.{HasPlainNames}
use Rattle.cfa_states.specs.Numbered.{Numbered, numbered_as, numbered_from, numbered_in}
use Rattle.cfa_states.specs.Views.{shared_names}

-- ---- names

pub plain_names_prop : (policy : PolicyTree) → IsProp (HasPlainNames policy)
plain_names_prop policy = λ x y i path newline. Bool-set (is_listed (shared_names policy) path) false (x path newline) (y path newline) i

-- ---- ids

abbrev IsOne : Numbered → Type 0
IsOne p = IsCounted p.id

counted_with : (name : List ℕ) (number : ℕ) (p : List ℕ × PromiseTree) (found : Option PromiseType) (rest : List Numbered) →
    IsCounted (record { bundle = name; number = number; line = p.1.place.line }) → All IsOne rest → All IsOne (cons_option (numbered_as name number p.1 found) rest)
counted_with name number p None rest here counted = counted
counted_with name number p (Some type) rest here counted = All-cons IsOne (record { id = record { bundle = name; number = number; line = p.1.place.line }; type = type; promise = p.1 }) rest here counted

counted_from : (name : List ℕ) (number : ℕ) (ps : List (List ℕ × PromiseTree)) → All IsCounted (ids_from name number (map second ps)) → All IsOne (numbered_from name number ps)
counted_from name number [] counted = All-nil IsOne
counted_from name number (p ∷ ps) counted =
    counted_with name number p (promise_type p.0) (numbered_from name (number + 1) ps)
    (All-head IsCounted _ (ids_from name (number + 1) (map second ps)) counted)
    (counted_from name (number + 1) ps (All-tail IsCounted _ (ids_from name (number + 1) (map second ps)) counted))

counted_in : (block : BlockTree) → All IsCounted (ids_in_block block) → AreCounted (numbered_in block)
counted_in (bundle type_name named params sections place) counted =
    counted_from named.name 1 (flat_map worded_promises_of sections)
    (subst (λ ps. All IsCounted (ids_from named.name 1 ps)) (sym (seconds_in sections)) counted)
counted_in (body type_name named params attributes place) counted = All-nil IsOne

abbrev BlockIsCounted : BlockTree → Type 0
BlockIsCounted block = All IsCounted (ids_in_block block)

pub counted_ids : (policy : PolicyTree) → NamedBundleStands → IdsAreCounted → IsSourced policy → HasCountedIds policy
unfolding promise_ids_of
counted_ids policy stand counted sourced = λ name block found.
    counted_in block (All-contains BlockIsCounted policy block (all_flat IsCounted ids_in_block policy (counted policy sourced)) (stand policy name block found))

pub counted_ids_prop : (policy : PolicyTree) → IsProp (HasCountedIds policy)
counted_ids_prop policy = hlevel (le_prop, Bool-set)
