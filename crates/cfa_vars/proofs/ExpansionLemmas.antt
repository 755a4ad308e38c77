-- The names and the filled text of a text, from its first reference on.
use Rattle.std.proofs.Common.{◌≡◌, ◌<◌, ◌≤◌, ◌+◌, ℕ, nat_le, Bool, true, false, cond, List, [], ◌∷◌, ◌++◌, length, map, find, is_none, MatchBool, Option, Some, None, unwrap_or, refl, arith, ⊎_elim, ap, sym, ◌∙◌}
use Rattle.std.specs.List.{flat_map}
use Rattle.std.proofs.lemmas.List.{append-nil, append_assoc, length-append}
use Rattle.std.proofs.lemmas.Bool.{false≢true, cases_lt, le-leb, lt-leb}
use Rattle.std.proofs.lemmas.Bool.Decides.{nat_tests}
use Rattle.cfa_vars.specs.References.{Piece, literal, reference, pieces}
use Rattle.cfa_vars.specs.Scopes.{InScope}
use Rattle.cfa_vars.specs.lemmas.Names.{names_in_more, names_in_none}
use Rattle.cfa_vars.specs.Expansion.{Chosen, scalar, filled_piece, filled, first_unresolved, within_limit, done_or_too_long, told_of, is_done, expanded}

module _ (scopes : InScope) (choice : Chosen) where
  filled-literals : (bytes : List ℕ) (ps : List Piece) → flat_map (filled_piece scopes choice) (map literal bytes ++ ps) ≡ bytes ++ flat_map (filled_piece scopes choice) ps
  filled-literals [] ps = refl
  filled-literals (b ∷ bs) ps = ap (λ t. b ∷ t) (filled-literals bs ps)

  pub filled_more : (text before name after : List ℕ) → pieces text ≡ map literal before ++ reference name ∷ pieces after → filled scopes choice text ≡ before ++ (unwrap_or (scalar scopes choice name) [] ++ filled scopes choice after)
  filled_more text before name after h = ap (flat_map (filled_piece scopes choice)) h ∙ filled-literals before (reference name ∷ pieces after)

  pub filled_none : (text : List ℕ) → pieces text ≡ map literal text → filled scopes choice text ≡ text
  filled_none text h = ap (flat_map (filled_piece scopes choice)) (h ∙ sym (append-nil (map literal text))) ∙ filled-literals text [] ∙ append-nil text

  pub unresolved_here : (text before name after : List ℕ) → pieces text ≡ map literal before ++ reference name ∷ pieces after → is_none (scalar scopes choice name) ≡ true → first_unresolved scopes choice text ≡ Some name
  unresolved_here text before name after h e = ap (find (λ n. is_none (scalar scopes choice n))) (names_in_more text before name after h) ∙ ap (λ t. cond t (Some name) (first_unresolved scopes choice after)) e

  pub unresolved_later : (text before name after : List ℕ) → pieces text ≡ map literal before ++ reference name ∷ pieces after → is_none (scalar scopes choice name) ≡ false → first_unresolved scopes choice text ≡ first_unresolved scopes choice after
  unresolved_later text before name after h e = ap (find (λ n. is_none (scalar scopes choice n))) (names_in_more text before name after h) ∙ ap (λ t. cond t (Some name) (first_unresolved scopes choice after)) e

  pub unresolved_none : (text : List ℕ) → pieces text ≡ map literal text → first_unresolved scopes choice text ≡ None
  unresolved_none text h = ap (find (λ n. is_none (scalar scopes choice n))) (names_in_none text h)

-- a whole that begins with too long a part is past the limit
pub past_limit : (done rest whole : List ℕ) → done ++ rest ≡ whole → 65536 < length done → within_limit whole ≡ None
past_limit done rest whole e h = let long : 65536 < length whole = omega (arith, length-append done rest, ap length e) in grind (arith, nat_tests)

pub in_limit : (whole : List ℕ) → length whole ≤ 65536 → within_limit whole ≡ Some whole
in_limit whole h = grind (arith, nat_tests)

pub where_true : (P Q : Type 0) (t : Bool) → t ≡ true → MatchBool t P Q → P
where_true P Q true e h = h
where_true P Q false e h = absurd (false≢true e)

pub where_false : (P Q : Type 0) (t : Bool) → t ≡ false → MatchBool t P Q → Q
where_false P Q true e h = absurd (false≢true (sym e))
where_false P Q false e h = h

-- the turns of a loop that writes the filled text: `done` is written, and `rest` is left
module _ (scopes : InScope) (choice : Chosen) (done rest text : List ℕ) (so_far : done ++ filled scopes choice rest ≡ filled scopes choice text) where
  module _ (before name after : List ℕ) (first : pieces rest ≡ map literal before ++ reference name ∷ pieces after) where
    value : List ℕ
    value = unwrap_or (scalar scopes choice name) []

    split : done ++ before ++ (value ++ filled scopes choice after) ≡ filled scopes choice text
    unfolding value
    split = append_assoc done before (value ++ filled scopes choice after) ∙ ap (λ t. done ++ t) (sym (filled_more scopes choice rest before name after first)) ∙ so_far

    pub stop_before : 65536 < length (done ++ before) → within_limit (filled scopes choice text) ≡ None
    stop_before long = past_limit (done ++ before) (value ++ filled scopes choice after) (filled scopes choice text) split long

    -- `part` is what the reference stands for
    module _ (middle part : List ℕ) (middle_is : middle ≡ done ++ before) (part_is : part ≡ unwrap_or (scalar scopes choice name) []) where
      pub write_more : (new : List ℕ) → new ≡ middle ++ part → new ++ filled scopes choice after ≡ filled scopes choice text
      unfolding value
      write_more new e = ap (λ t. t ++ filled scopes choice after) (e ∙ ap (λ t. t ++ part) middle_is ∙ ap (λ t. done ++ before ++ t) part_is) ∙ append_assoc (done ++ before) value (filled scopes choice after) ∙ split

      pub stop_part : 65536 < length (middle ++ part) → within_limit (filled scopes choice text) ≡ None
      stop_part long = past_limit (middle ++ part) (filled scopes choice after) (filled scopes choice text) (write_more (middle ++ part) refl) long

  module _ (last : pieces rest ≡ map literal rest) where
    whole_is : done ++ rest ≡ filled scopes choice text
    whole_is = ap (λ t. done ++ t) (sym (filled_none scopes choice rest last)) ∙ so_far

    pub stop_last : 65536 < length (done ++ rest) → within_limit (filled scopes choice text) ≡ None
    stop_last long = ap within_limit (sym whole_is) ∙ past_limit (done ++ rest) [] (done ++ rest) (append-nil (done ++ rest)) long

    pub write_last : (new : List ℕ) → new ≡ done ++ rest → length new ≤ 65536 → within_limit (filled scopes choice text) ≡ Some new
    write_last new e short = ap within_limit (sym (e ∙ whole_is)) ∙ in_limit new short

-- ---- a text that expands where no item is chosen

pub plain_unresolved : (found : Option (List ℕ)) (name whole : List ℕ) → found ≡ Some name → false ≡ is_done (told_of found whole)
plain_unresolved found name whole h = ap (λ o. is_done (told_of o whole)) (sym h)

pub plain_too_long : (found : Option (List ℕ)) (whole : List ℕ) → 65536 < length whole → false ≡ is_done (told_of found whole)
plain_too_long None whole long = ap (λ o. is_done (done_or_too_long o)) (sym (past_limit whole [] whole (append-nil whole) long))
plain_too_long (Some name) whole long = refl

is_done-within : (t : Bool) (whole : List ℕ) → t ≡ is_done (done_or_too_long (cond t (Some whole) None))
is_done-within true whole = refl
is_done-within false whole = refl

pub plain_last : (found : Option (List ℕ)) (whole : List ℕ) (t : Bool) → found ≡ None → t ≡ nat_le (length whole) 65536 → t ≡ is_done (told_of found whole)
plain_last found whole t none h = h ∙ is_done-within (nat_le (length whole) 65536) whole ∙ ap (λ o. is_done (told_of o whole)) (sym none)

pub length-filled_more : (scopes : InScope) (choice : Chosen) (rest before name after part : List ℕ) → pieces rest ≡ map literal before ++ reference name ∷ pieces after → part ≡ unwrap_or (scalar scopes choice name) [] → length (filled scopes choice rest) ≡ length before + (length part + length (filled scopes choice after))
length-filled_more scopes choice rest before name after part first part_is =
    ap length (filled_more scopes choice rest before name after first ∙ ap (λ p. before ++ (p ++ filled scopes choice after)) (sym part_is))
    ∙ length-append before (part ++ filled scopes choice after) ∙ ap (λ n. length before + n) (length-append part (filled scopes choice after))

pub as_long : (left rest whole : ℕ) → whole + left ≡ 65536 + rest → nat_le rest left ≡ nat_le whole 65536
as_long left rest whole h =
    ⊎_elim (λ over. lt-leb rest left over ∙ sym (lt-leb whole 65536 (omega arith)))
    (λ within. le-leb rest left within ∙ sym (le-leb whole 65536 (omega arith))) (cases_lt left rest)

-- ---- a text without any reference

pub expanded_literal : (scopes : InScope) (choice : Chosen) (text : List ℕ) → pieces text ≡ map literal text → done_or_too_long (within_limit text) ≡ expanded scopes choice text
unfolding expanded
expanded_literal scopes choice text none =
    sym (ap (λ o. told_of o (filled scopes choice text)) (unresolved_none scopes choice text none) ∙ ap (λ whole. done_or_too_long (within_limit whole)) (filled_none scopes choice text none))
