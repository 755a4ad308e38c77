-- The promises of a bundle are numbered, and known to stand under the guard of the one before, section by section.
use Rattle.std.proofs.Common.{◌≡◌, ℕ, ◌+◌, ◌<◌, List, ◌++◌, length, drop, get_or, map, arith, ◌-◌, [], ◌∷◌, Option, IfSome, IsTrue, sym, ap, subst, ⊎_elim, ◌∙◌}
use Rattle.std.proofs.lemmas.List.{length-map, get_or_append_left, get_or_push, length_push}
use Rattle.cfa_tree.specs.declared.sections.Section.{Section}
use Rattle.cfa_tree.specs.Plain.{plain_promise, plain_section}
use Rattle.cfa_served.specs.Checked.{worded_promises_of}
use Rattle.cfa_served.specs.lemmas.Promises.{pair_with}
use Rattle.cfa_scripts.specs.lemmas.Numbering.{left_of, one_section}
use Rattle.cfa_states.specs.Numbered.{Numbered, numbered_from}
use Rattle.std.proofs.lemmas.Bool.{cases_eq}
use Rattle.cfa_kinds.specs.declared.kinds.PromiseType.{PromiseType}
use Rattle.cfa_tree.specs.declared.expressions.Expr.{Expr}
use Rattle.cfa_tree.specs.declared.promises.Promise.{Promise}
use Rattle.cfa_tree.specs.Repeats.{guard_at}
use Rattle.cfa_tree.specs.lemmas.GuardPlaces.{guard_there}
use Rattle.cfa_states.specs.declared.numbered.Numbered.{Numbered as Held}
use Rattle.cfa_states.specs.Kept.{GuardsRepeat, StandsLast}

-- a section has so many promises as are numbered of it
pub section_added : (name : List ℕ) (sections : List Section) (i : ℕ) (section : Section) (number next : ℕ) (so_far now : List Numbered) →
    i < length sections → section ≡ get_or sections i section → next ≡ number + length section.promises →
    now ≡ so_far ++ numbered_from name (number + 1) (worded_promises_of (plain_section section)) →
    now ++ numbered_from name (next + 1) (left_of (drop (i + 1) sections)) ≡ so_far ++ numbered_from name (number + 1) (left_of (drop i sections))
section_added name sections i section number next so_far now behind is counted e =
    let here = worded_promises_of (plain_section section) in
    let first = length-map section.promises plain_promise in
    let second = length-map (map plain_promise section.promises) (pair_with section.kind) in
    let numbers : next ≡ number + length here = omega (arith, first, second, counted) in
    one_section name sections i section number next so_far now behind is numbers e

-- ---- promises that are numbered

module _ (ps : List Held) (x : Held) where
  there_before : (i : ℕ) (p : Held) → i < length ps → get_or (ps ++ x ∷ []) i p ≡ get_or ps i p
  there_before i p within = get_or_append_left ps (x ∷ []) p i within

  there_last : (i : ℕ) (p : Held) → i ≡ length ps → get_or (ps ++ x ∷ []) i p ≡ x
  there_last i p is = get_or_push ps x p i (sym is)

  pub repeats_pushed : GuardsRepeat ps → (IsTrue x.repeats → StandsLast ps x.promise.now.guard) → GuardsRepeat (ps ++ x ∷ [])
  repeats_pushed so_far is_last = λ i p within marked.
      let longer : length (ps ++ x ∷ []) ≡ length ps + 1 = length_push ps x in
      let below : i < length ps = omega (arith, longer) in
      ⊎_elim
      (λ (end : i + 1 ≡ length ps).
      let here : get_or (ps ++ x ∷ []) (i + 1) p ≡ x = there_last (i + 1) p end in
      let last : StandsLast ps x.promise.now.guard = is_last (subst (λ (y : Held). IsTrue y.repeats) here marked) in
      let at : i ≡ length ps - 1 = omega arith in
      ap (λ (y : Held). y.promise.now.guard) here
      ∙ sym (last.guard p)
      ∙ ap (λ (n : ℕ). (get_or ps n p).promise.now.guard) (sym at)
      ∙ ap (λ (y : Held). y.promise.now.guard) (sym (there_before i p below)))
      (λ (other : i + 1 ≡ length ps → ⊥).
      let further : i + 1 < length ps = inside i other below in
      let here = there_before (i + 1) p further in
      ap (λ (y : Held). y.promise.now.guard) here
      ∙ so_far i p further (subst (λ (y : Held). IsTrue y.repeats) here marked)
      ∙ ap (λ (y : Held). y.promise.now.guard) (sym (there_before i p below)))
      (cases_eq (i + 1) (length ps))
    where
      inside : (i : ℕ) → (i + 1 ≡ length ps → ⊥) → i < length ps → i + 1 < length ps
      inside i other below = omega arith

-- the last promise is the one before an index of a section, if its type was found
abbrev pub LastStands : List Promise → Option PromiseType → (index : ℕ) → List Held → Type 0
LastStands promises found i ps = 0 < i → IfSome found (λ _. StandsLast ps (guard_at promises (i - 1)))

pub last_next : (promises : List Promise) (found : Option PromiseType) (i : ℕ) (p : Promise) (ps : List Held) → i < length promises → p ≡ get_or promises i p →
    IfSome found (λ _. StandsLast ps p.guard) → LastStands promises found (i + 1) ps
last_next promises found i p ps within is last = λ _.
    let back : (i + 1) - 1 ≡ i = omega arith in
    subst (λ (g : Option Expr). IfSome found (λ _. StandsLast ps g))
    (sym (ap (guard_at promises) back ∙ guard_there promises i p within is)) last
