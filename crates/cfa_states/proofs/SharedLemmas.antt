-- The names of the shared scopes, each of which stands once.
use Rattle.std.proofs.Common.{◌≡◌, ℕ, Bool, true, false, List, [], ◌∷◌, ◌++◌, map, refl, sym, ap, ◌∙◌, Bor}
use Rattle.std.specs.Prelude.{◌||◌, if◌then◌else◌}
use Rattle.std.specs.Str.{bytes_eq}
use Rattle.std.proofs.lemmas.Bool.{or_parts}
use Rattle.std.proofs.lemmas.List.Folds.{list_any-append}
use Rattle.std.proofs.lemmas.List.{map-append}
use Rattle.cfa_base.specs.lemmas.EqualTexts.{texts_turned}
use Rattle.cfa_tree.specs.declared.blocks.Bundle.{Bundle}
use Rattle.cfa_tree.specs.declared.blocks.Block.TheVariants.{Bundle as a_bundle}
use Rattle.cfa_tree.specs.Plain.{plain_block}
use Rattle.cfa_tree.specs.Tree.{PolicyTree}
use Rattle.cfa_served.specs.Control.{sequence_of}
use Rattle.cfa_served.specs.Served.{common_bundles_of}
use Rattle.cfa_base.specs.Index.{is_listed}
use Rattle.cfa_vars.specs.Shared.{begun, begun_each}
use Rattle.cfa_vars.specs.Tables.{Table}
use Rattle.cfa_states.specs.Kept.{first}
use Rattle.cfa_states.specs.Numbered.{name_of}
use Rattle.cfa_states.specs.Views.{joined_once, shared_names}
use Rattle.cfa_states.specs.lemmas.Keeping.{IsOnce, with_its}

-- ---- names that are joined

abbrev pub held_name : Bor Bundle → List ℕ
held_name bundle = bundle.now.name.name

pub names_held : (bundles : List (Bor Bundle)) → map name_of (map (λ bundle. plain_block (a_bundle bundle.now)) bundles) ≡ map held_name bundles
names_held [] = refl
names_held (bundle ∷ bundles) = ap (λ names. bundle.now.name.name ∷ names) (names_held bundles)

-- ---- each name stands once

one_more : (names : List (List ℕ)) (name : List ℕ) → IsOnce names → is_listed names name ≡ false → IsOnce (names ++ name ∷ [])
one_more [] name once new = (refl, tt)
one_more (other ∷ names) name once new =
    let both = or_parts (bytes_eq other name) (is_listed names name) new in (
      list_any-append (λ n. bytes_eq n other) names (name ∷ []) ∙ ap (λ b. b || (bytes_eq name other || false)) once.0 ∙ ap (λ b. b || false) (texts_turned name other ∙ both.0),
      one_more names name once.1 both.1,
    )

with_name : (listed : Bool) (names : List (List ℕ)) (name : List ℕ) → IsOnce names → is_listed names name ≡ listed → IsOnce (if listed then names else names ++ name ∷ [])
with_name true names name once e = once
with_name false names name once e = one_more names name once e

once_joined : (names more : List (List ℕ)) → IsOnce names → IsOnce (joined_once names more)
once_joined names [] once = once
once_joined names (name ∷ more) once =
    once_joined (if is_listed names name then names else names ++ name ∷ []) more (with_name (is_listed names name) names name once refl)

pub shared_once : (policy : PolicyTree) → IsOnce (shared_names policy)
unfolding shared_names
shared_once policy = once_joined [] (map name_of (common_bundles_of policy) ++ sequence_of policy) tt

-- ---- what stands under the names

pub names_of_pairs : {T : Type 0} (f : List ℕ → T) (names : List (List ℕ)) → map first (map (with_its f) names) ≡ names
names_of_pairs f [] = refl
names_of_pairs f (name ∷ names) = ap (λ rest. name ∷ rest) (names_of_pairs f names)

-- ---- scopes in which nothing is set

abbrev bare : List (List ℕ) → List (List ℕ × Table)
bare names = map (λ name. (name, [])) names

begun_bare : (names : List (List ℕ)) (name : List ℕ) → begun (bare names) name ≡ bare (if is_listed names name then names else names ++ name ∷ [])
begun_bare names name =
    ap (λ listed. if listed then bare names else bare names ++ (name, []) ∷ []) (ap (λ ns. is_listed ns name) (names_of_pairs (λ _. []) names))
    ∙ by (is_listed names name) where
      by : (b : Bool) → (if b then bare names else bare names ++ (name, []) ∷ []) ≡ bare (if b then names else names ++ name ∷ [])
      by true = refl
      by false = sym (map-append (λ n. (n, [])) names (name ∷ []))

begun_joined : (names more : List (List ℕ)) → begun_each (bare names) more ≡ bare (joined_once names more)
begun_joined names [] = refl
begun_joined names (name ∷ more) =
    ap (λ scopes. begun_each scopes more) (begun_bare names name)
    ∙ begun_joined (if is_listed names name then names else names ++ name ∷ []) more

begun-append : (scopes : List (List ℕ × Table)) (names more : List (List ℕ)) → begun_each scopes (names ++ more) ≡ begun_each (begun_each scopes names) more
begun-append scopes [] more = refl
begun-append scopes (name ∷ names) more = begun-append (begun scopes name) names more

-- the scopes of common bundles, and then those of the sequence
pub shared_begun_are : (policy : PolicyTree) → begun_each (begun_each [] (map name_of (common_bundles_of policy))) (sequence_of policy) ≡ bare (shared_names policy)
unfolding shared_names
shared_begun_are policy =
    sym (begun-append [] (map name_of (common_bundles_of policy)) (sequence_of policy))
    ∙ begun_joined [] (map name_of (common_bundles_of policy) ++ sequence_of policy)
