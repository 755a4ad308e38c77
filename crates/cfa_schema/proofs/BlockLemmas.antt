-- What is noted of bundles and bodies.
use Rattle.std.proofs.Common.{◌≡◌, ◌<◌, ℕ, ◌+◌, Bool, List, [], ◌∷◌, ◌++◌, length, drop, get_or, map, Option, Some, refl, ap, sym, ◌∙◌, append_assoc}
use Rattle.std.specs.Prelude.{◌||◌}
use Rattle.std.specs.List.{flat_map, list_any}
use Rattle.std.proofs.lemmas.List.{drop_more, map-append}
use Rattle.cfa_tree.specs.Tree.{AttributeTree, SectionTree, NamedTree}
use Rattle.cfa_kinds.specs.declared.kinds.BundleType.{BundleType}
use Rattle.cfa_kinds.specs.declared.kinds.BodyType.{BodyType}
use Rattle.cfa_values.specs.declared.refusals.Refusal.{Refusal}
use Rattle.cfa_kinds.specs.Kinds.{bundle_type, body_type}
use Rattle.cfa_values.specs.Definitions.{Definitions}
use Rattle.cfa_values.specs.Scope.{in_bundle, in_body}
use Rattle.cfa_values.specs.Refusals.{noted}
use Rattle.cfa_schema.specs.Valid.{section_refusals, bundle_by, body_by}
use Rattle.cfa_values.specs.Noted.{then_noted}

-- one more is seen as the next that was left
pub seen_more : {I E T : Type 0} (seen : I → T) (plain : E → T) (items more : List I) (item : I) (xs : List E) (i : ℕ) (x : E) → i < length xs → x ≡ get_or xs i x →
    more ≡ items ++ item ∷ [] → seen item ≡ plain x → map seen more ++ map plain (drop (i + 1) xs) ≡ map seen items ++ map plain (drop i xs)
seen_more seen plain items more item xs i x h is m e =
    let rest = map plain (drop (i + 1) xs) in
    ap (λ ys. map seen ys ++ rest) m
    ∙ ap (λ ys. ys ++ rest) (map-append seen items (item ∷ []))
    ∙ append_assoc (map seen items) (seen item ∷ []) rest
    ∙ ap (λ y. map seen items ++ y ∷ rest) (e ∙ ap plain is)
    ∙ ap (λ ys. map seen items ++ map plain ys) (sym (drop_more xs i x h))

-- what depends on what was found was noted behind a front
pub noted_by : {X : Type 0} (by : X → List Refusal) (found real : X) (front : List Refusal) (first next last : Option Refusal) → found ≡ real →
    next ≡ noted first front → last ≡ noted next (by found) → last ≡ noted first (front ++ by real)
noted_by by found real front first next last t e f = then_noted first next last front (by real) e (f ∙ ap (λ x. noted next (by x)) t)

-- a bundle whose type is one of the profile
pub bundle_noted : (definitions : Definitions) (kind : NamedTree) (name seen_name : List ℕ) (sections seen_sections : List SectionTree) (type : BundleType)
    (front : List Refusal) (first next last : Option Refusal) → seen_name ≡ name → seen_sections ≡ sections → Some type ≡ bundle_type kind.name →
    next ≡ noted first front → last ≡ noted next (flat_map (section_refusals (record { definitions = definitions; home = in_bundle seen_name }) type) seen_sections) →
    last ≡ noted first (front ++ bundle_by (record { definitions = definitions; home = in_bundle name }) kind sections (bundle_type kind.name))
bundle_noted definitions kind name seen_name sections seen_sections type front first next last n s t e f =
    noted_by (bundle_by (record { definitions = definitions; home = in_bundle name }) kind sections) (Some type) (bundle_type kind.name) front first next last t e
    (f ∙ ap (λ own. noted next (flat_map (section_refusals (record { definitions = definitions; home = in_bundle own }) type) seen_sections)) n
    ∙ ap (λ ss. noted next (flat_map (section_refusals (record { definitions = definitions; home = in_bundle name }) type) ss)) s)

-- a body whose type is one of the profile
pub body_noted : (definitions : Definitions) (kind name : NamedTree) (params seen_params : List (List ℕ)) (attributes : List AttributeTree) (type : BodyType)
    (front : List Refusal) (first next last : Option Refusal) → seen_params ≡ params → Some type ≡ body_type kind.name →
    next ≡ noted first front → last ≡ noted next (body_by (record { definitions = definitions; home = in_body seen_params }) kind name attributes (Some type)) →
    last ≡ noted first (front ++ body_by (record { definitions = definitions; home = in_body params }) kind name attributes (body_type kind.name))
body_noted definitions kind name params seen_params attributes type front first next last n t e f =
    noted_by (body_by (record { definitions = definitions; home = in_body params }) kind name attributes) (Some type) (body_type kind.name) front first next last t e
    (f ∙ ap (λ names. noted next (body_by (record { definitions = definitions; home = in_body names }) kind name attributes (Some type))) n)

-- a test finds one of the values that some items are seen as
pub any_seen : {X Y : Type 0} (seen : X → Y) (p : Y → Bool) (xs : List X) → list_any (λ x. p (seen x)) xs ≡ list_any p (map seen xs)
any_seen seen p [] = refl
any_seen seen p (x ∷ xs) = ap (λ b. p (seen x) || b) (any_seen seen p xs)
