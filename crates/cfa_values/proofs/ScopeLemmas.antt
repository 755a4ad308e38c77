-- The broken references and the refused names of a text, from its first reference on.
use Rattle.std.proofs.Common.{◌≡◌, ℕ, Bool, true, false, cond, ◌==◌, ◌||◌, List, [], ◌∷◌, ◌++◌, map, not, is_none, is_some, Option, Some, None, MatchOption, refl, ap, sym, ◌∙◌}
use Rattle.std.specs.List.{list_any}
use Rattle.cfa_base.specs.lemmas.Truths.{or_assoc}
use Rattle.cfa_vars.specs.References.{Piece, literal, reference, pieces, names_in}
use Rattle.cfa_vars.specs.lemmas.Names.{names_in_more, names_in_none}
use Rattle.cfa_vars.specs.declared.references.Reference.{Reference}
use Rattle.cfa_values.specs.Scope.{begins_with_bracket, has_broken_reference, is_empty_list, is_literal}

none_broken : (t other : Bool) → (cond t false false || other) ≡ ((cond t false false || false) || other)
none_broken true other = refl
none_broken false other = refl

broken-reference : (before name : List ℕ) (after : List Piece) → has_broken_reference (map literal before ++ reference name ∷ after) ≡ (has_broken_reference (map literal before) || has_broken_reference after)
broken-reference [] name after = refl
broken-reference (b ∷ []) name after = none_broken (b == 36) (has_broken_reference after)
broken-reference (b ∷ c ∷ rest) name after =
    ap (λ t. cond (b == 36) (begins_with_bracket (literal c ∷ [])) false || t) (broken-reference (c ∷ rest) name after)
    ∙ sym (or_assoc (cond (b == 36) (begins_with_bracket (literal c ∷ [])) false) (has_broken_reference (map literal (c ∷ rest))) (has_broken_reference after))

pub broken_more : (text before name after : List ℕ) → pieces text ≡ map literal before ++ reference name ∷ pieces after → has_broken_reference (pieces text) ≡ (has_broken_reference (map literal before) || has_broken_reference (pieces after))
broken_more text before name after h = ap has_broken_reference h ∙ broken-reference before name (pieces after)

-- nothing broken stands before the first reference
pub broken_later : (text before name after : List ℕ) → pieces text ≡ map literal before ++ reference name ∷ pieces after → has_broken_reference (map literal before) ≡ false → has_broken_reference (pieces text) ≡ has_broken_reference (pieces after)
broken_later text before name after h e = broken_more text before name after h ∙ ap (λ t. t || has_broken_reference (pieces after)) e

pub broken_here : (text before name after : List ℕ) → pieces text ≡ map literal before ++ reference name ∷ pieces after → has_broken_reference (map literal before) ≡ true → has_broken_reference (pieces text) ≡ true
broken_here text before name after h e = broken_more text before name after h ∙ ap (λ t. t || has_broken_reference (pieces after)) e

none_told : {T : Type 0} (o : Option T) (r : Bool) → is_some o ≡ not r → r ≡ is_none o
none_told None true e = refl
none_told None false e = e
none_told (Some x) true e = e
none_told (Some x) false e = refl

none_is_literal : (text : List ℕ) (o : Option Reference) → MatchOption o (pieces text ≡ map literal text) (λ r. pieces text ≡ map literal r.before.now ++ reference r.name.now ∷ pieces r.after.now) → is_none o ≡ is_literal text
unfolding is_literal
none_is_literal text None h = ap is_empty_list (sym (names_in_none text h))
none_is_literal text (Some r) h = ap is_empty_list (sym (names_in_more text r.before.now r.name.now r.after.now h))

-- a text is literal where it has no first reference
pub literal_by_first : (text : List ℕ) (o : Option Reference) (r : Bool) → is_some o ≡ not r → MatchOption o (pieces text ≡ map literal text) (λ r. pieces text ≡ map literal r.before.now ++ reference r.name.now ∷ pieces r.after.now) → r ≡ is_literal text
literal_by_first text o r e h = none_told o r e ∙ none_is_literal text o h

module _ (admitted : List ℕ → Bool) where
  pub refused_here : (text before name after : List ℕ) → pieces text ≡ map literal before ++ reference name ∷ pieces after → admitted name ≡ false → list_any (λ n. not (admitted n)) (names_in text) ≡ true
  refused_here text before name after h e = ap (list_any (λ n. not (admitted n))) (names_in_more text before name after h) ∙ ap (λ t. not t || list_any (λ n. not (admitted n)) (names_in after)) e

  pub refused_later : (text before name after : List ℕ) → pieces text ≡ map literal before ++ reference name ∷ pieces after → admitted name ≡ true → list_any (λ n. not (admitted n)) (names_in text) ≡ list_any (λ n. not (admitted n)) (names_in after)
  refused_later text before name after h e = ap (list_any (λ n. not (admitted n))) (names_in_more text before name after h) ∙ ap (λ t. not t || list_any (λ n. not (admitted n)) (names_in after)) e

  pub refused_none : (text : List ℕ) → pieces text ≡ map literal text → list_any (λ n. not (admitted n)) (names_in text) ≡ false
  refused_none text h = ap (list_any (λ n. not (admitted n))) (names_in_none text h)
