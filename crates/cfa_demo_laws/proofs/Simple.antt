-- What holds of each promise of a demo: it is the promise of a number by the number modulo 4, without a guard, reads no variable, and has no edit bundle.
use Rattle.std.proofs.Common.{◌≡◌, refl, ◌∙◌, ap, ℕ, zero, suc, ◌+◌, ◌%◌, ◌<◌, ◌≤◌, List, [], ◌∷◌, ◌++◌, codes, None, arith}
use Rattle.std.specs.Prelude.{Contains}
use Rattle.std.specs.Fmt.{decimal}
use Rattle.std.specs.List.{AllByRecursion as Each, flat_map}
use Rattle.std.proofs.lemmas.List.Elements.{All-contains, All-from_recursion}
use Rattle.cfa_base.specs.declared.places.Place.{Place}
use Rattle.cfa_base.specs.Lexing.{place_after}
use Rattle.cfa_base.specs.lemmas.Lists.{each_append}
use Rattle.cfa_tree.specs.Tree.{PromiseTree}
use Rattle.cfa_kinds.specs.declared.kinds.PromiseType.TheVariants as promises
use Rattle.cfa_kinds.specs.Kinds.{files_attribute, outcome_attribute}
use Rattle.cfa_values.specs.Attributes.{value_of}
use Rattle.cfa_vars.specs.References.{list_reference_of}
use Rattle.cfa_defines.specs.OwnTexts.{text_or_list, own_reads, scalar_names}
use Rattle.cfa_demo_laws.specs.Trees.{at, behind_text, file_of, class_of, attributes_by, promise_by, promise_tree, promise_trees}
use Rattle.cfa_demo_laws.proofs.Plain.{IsPlain, true_is_plain, mode_is_plain, decimal_is_plain, file_is_plain, class_is_plain}
use Rattle.cfa_demo_laws.proofs.References.{plain_is_no_list, plain_names_none}

pub record Simple (p : PromiseTree) : Type 0 where
  pub no_guard : p.guard ≡ None
  pub no_names : flat_map scalar_names (own_reads promises.Files p) ≡ []
  pub no_edits : value_of (codes "edit_line") p.attributes ≡ None

text_names_none : (content : List ℕ) → IsPlain content → scalar_names (text_or_list content (list_reference_of content)) ≡ []
text_names_none content p = ap (λ found. scalar_names (text_or_list content found)) (plain_is_no_list content p) ∙ plain_names_none content p

names_none : (line kind k : ℕ) → k < 10000 → kind < 4 → flat_map scalar_names (own_reads promises.Files (promise_by line kind k)) ≡ []
unfolding own_reads files_attribute outcome_attribute
names_none line zero k below small =
    λ i. plain_names_none (file_of k) (file_is_plain k below) i ++ (text_names_none (decimal k) (decimal_is_plain k below) i ++ [])
names_none line (suc zero) k below small =
    λ i. plain_names_none (file_of k) (file_is_plain k below) i ++ (text_names_none (codes "true") true_is_plain i ++ [])
names_none line (suc (suc zero)) k below small =
    λ i. plain_names_none (file_of k) (file_is_plain k below) i
    ++ (text_names_none (codes "true") true_is_plain i ++ (text_names_none (codes "644") mode_is_plain i ++ []))
names_none line (suc (suc (suc zero))) k below small =
    λ i. plain_names_none (file_of k) (file_is_plain k below) i
    ++ (text_names_none (decimal k) (decimal_is_plain k below) i ++ (text_names_none (class_of k) (class_is_plain k below) i ++ []))
names_none line (suc (suc (suc (suc more)))) k below small = absurd (omega arith)

edits_none : (kind k : ℕ) (place : Place) → kind < 4 → value_of (codes "edit_line") (attributes_by kind k place) ≡ None
edits_none zero k place small = refl
edits_none (suc zero) k place small = refl
edits_none (suc (suc zero)) k place small = refl
edits_none (suc (suc (suc zero))) k place small = refl
edits_none (suc (suc (suc (suc more)))) k place small = absurd (omega arith)

pub promise_is_simple : (line kind k : ℕ) → k < 10000 → kind < 4 → Simple (promise_by line kind k)
promise_is_simple line kind k below small =
    record { no_guard = refl; no_names = names_none line kind k below small; no_edits = edits_none kind k (place_after (behind_text (at line 5) (file_of k)) (codes " ")) small }

-- ---- each of them

pub record IsOfNumber (p : PromiseTree) : Type 0 where
  pub line : ℕ
  pub kind : ℕ
  pub number : ℕ
  pub is : p ≡ promise_by line kind number
  pub number_below : number < 10000
  pub kind_below : kind < 4

pub each_of_number : (n : ℕ) → n ≤ 10000 → Each IsOfNumber (promise_trees n)
unfolding promise_trees promise_tree
each_of_number zero few = tt
each_of_number (suc k) few =
    each_append IsOfNumber (promise_trees k) (promise_tree k ∷ []) (each_of_number k (omega arith))
    (record { line = k + 4; kind = k % 4; number = k; is = refl; number_below = omega arith; kind_below = omega arith }, tt)

pub of_number : (n : ℕ) (p : PromiseTree) → n ≤ 10000 → Contains (promise_trees n) p → IsOfNumber p
of_number n p few has = All-contains IsOfNumber (promise_trees n) p (All-from_recursion IsOfNumber (promise_trees n) (each_of_number n few)) has
