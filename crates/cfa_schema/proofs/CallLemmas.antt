-- The calls of the bundles that are the first of their names, collected one block after another.
use Rattle.std.proofs.Common.{◌≡◌, ◌∙◌, ◌<◌, ◌+◌, ℕ, Bool, true, false, List, [], ◌∷◌, ◌++◌, length, drop, get_or, map, refl, ap, sym, append_assoc, append-nil}
use Rattle.std.specs.Prelude.{if◌then◌else◌, is_none, not}
use Rattle.std.specs.List.{flat_map, filter_map}
use Rattle.std.proofs.lemmas.List.{drop_more}
use Rattle.std.specs.Str.{bytes_eq}
use Rattle.cfa_base.specs.Index.{place_of}
use Rattle.cfa_base.specs.lemmas.Lists.{none_left, none_right}
use Rattle.cfa_calls.specs.Cycles.{Call}
use Rattle.cfa_tree.specs.declared.blocks.Block.{Block}
use Rattle.cfa_tree.specs.declared.blocks.Block.TheVariants.{Bundle, Body}
use Rattle.cfa_tree.specs.declared.blocks.Bundle.{Bundle as BundleItem}
use Rattle.cfa_tree.specs.declared.blocks.Body.{Body as BodyItem}
use Rattle.cfa_tree.specs.Plain.{plain_block}
use Rattle.cfa_tree.specs.Tree.{bundle, body, PolicyTree}
use Rattle.cfa_values.specs.Definitions.{is_one_of}
use Rattle.cfa_values.specs.Lookups.{is_repeated}
use Rattle.cfa_values.specs.Refusals.{only_if}
use Rattle.cfa_values.specs.Values.{repeated_after}
use Rattle.cfa_values.specs.declared.refusals.Code.TheVariants.{Duplicate}
use Rattle.cfa_schema.specs.Valid.{bundle_name, calls_in_block, calls_of, first_bundles_after}
use Rattle.cfa_schema.specs.Laws.{EachBundleCalls}
use Rattle.cfa_schema.specs.lemmas.Passing.{names_pass}
use Rattle.cfa_schema.proofs.IdLemmas.{only_none}

-- a name is new where it is none of the names
is_known_name : (names : List (List ℕ)) (name : List ℕ) (is_new : Bool) → is_new ≡ is_none (place_of names name) → is_one_of name names ≡ not is_new
is_known_name names name is_new e = sym (ap not e ∙ is_repeated (λ other. bytes_eq name other) names)

pub first_added : (names : List (List ℕ)) (name : List ℕ) (is_new : Bool) (so_far own now : List Call) → is_new ≡ is_none (place_of names name) → is_new ≡ true →
    now ≡ so_far ++ own → now ≡ so_far ++ (if is_one_of name names then [] else own)
first_added names name is_new so_far own now e true_is is =
    is ∙ ap (λ known. so_far ++ (if known then [] else own)) (sym (is_known_name names name is_new e ∙ ap not true_is))

pub later_passed : (names : List (List ℕ)) (name : List ℕ) (is_new : Bool) (so_far own now : List Call) → is_new ≡ is_none (place_of names name) → is_new ≡ false →
    now ≡ so_far → now ≡ so_far ++ (if is_one_of name names then [] else own)
later_passed names name is_new so_far own now e false_is is =
    is ∙ sym (append-nil so_far) ∙ ap (λ known. so_far ++ (if known then [] else own)) (sym (is_known_name names name is_new e ∙ ap not false_is))

abbrev calls_left : List (List ℕ) → PolicyTree → List Call
calls_left names policy = flat_map calls_in_block (first_bundles_after names policy)

module _ (blocks : List Block) (i : ℕ) (b : Block) (so_far : List Call) (names : List (List ℕ)) (within : i < length blocks) (is : b ≡ get_or blocks i b) where
  abbrev rest : PolicyTree
  rest = map plain_block (drop (i + 1) blocks)

  here_first : (x : Block) → b ≡ x → calls_left names (map plain_block (drop i blocks)) ≡ calls_left names (plain_block x ∷ rest)
  here_first x e =
      ap (λ bs. calls_left names (map plain_block bs)) (drop_more blocks i b within)
      ∙ ap (λ y. calls_left names (plain_block y ∷ rest)) (sym is ∙ e)

  split : (x : BundleItem) (known : Bool) → (if known then [] else calls_in_block (plain_block (Bundle x))) ++ calls_left (names ++ x.name.name ∷ []) rest
      ≡ flat_map calls_in_block ((if known then [] else plain_block (Bundle x) ∷ []) ++ first_bundles_after (names ++ x.name.name ∷ []) rest)
  split x true = refl
  split x false = refl

  -- a bundle makes its calls where it is the first of its name
  pub bundle_called : (x : BundleItem) (now : List Call) (after : List (List ℕ)) → b ≡ Bundle x →
      now ≡ so_far ++ (if is_one_of x.name.name names then [] else calls_in_block (plain_block (Bundle x))) → after ≡ names ++ x.name.name ∷ [] →
      now ++ calls_left after rest ≡ so_far ++ calls_left names (map plain_block (drop i blocks))
  bundle_called x now after e called named =
      let own = if is_one_of x.name.name names then [] else calls_in_block (plain_block (Bundle x)) in
      ap (λ calls. calls ++ calls_left after rest) called
      ∙ ap (λ ns. (so_far ++ own) ++ calls_left ns rest) named
      ∙ append_assoc so_far own (calls_left (names ++ x.name.name ∷ []) rest)
      ∙ ap (λ calls. so_far ++ calls) (split x (is_one_of x.name.name names) ∙ sym (here_first (Bundle x) e))

  -- a body makes none
  pub body_passed : (x : BodyItem) (now : List Call) (after : List (List ℕ)) → b ≡ Body x → now ≡ so_far → after ≡ names →
      now ++ calls_left after rest ≡ so_far ++ calls_left names (map plain_block (drop i blocks))
  body_passed x now after e called named =
      ap (λ calls. calls ++ calls_left after rest) called
      ∙ ap (λ ns. so_far ++ calls_left ns rest) named
      ∙ ap (λ calls. so_far ++ calls) (sym (here_first (Body x) e))

-- where no name stands twice, no bundle is left out
all_call : (before : List (List ℕ)) (policy : PolicyTree) → repeated_after before (filter_map bundle_name policy) ≡ [] → calls_left before policy ≡ flat_map calls_in_block policy
all_call before [] e = refl
all_call before (bundle type_name name params sections place ∷ rest) e =
    let here = only_if (is_one_of name.name before) Duplicate name.place in
    let behind = repeated_after (before ++ name.name ∷ []) (filter_map bundle_name rest) in
    let b = bundle type_name name params sections place in
    ap (λ known. flat_map calls_in_block ((if known then [] else b ∷ []) ++ first_bundles_after (before ++ name.name ∷ []) rest))
    (only_none (is_one_of name.name before) name.place (none_left here behind e))
    ∙ ap (λ calls. calls_in_block b ++ calls) (all_call (before ++ name.name ∷ []) rest (none_right here behind e))
all_call before (body type_name name params attributes place ∷ rest) e = all_call before rest e

pub each_bundle_calls : EachBundleCalls
unfolding calls_of
each_bundle_calls policy valid = all_call [] policy (names_pass policy valid)
