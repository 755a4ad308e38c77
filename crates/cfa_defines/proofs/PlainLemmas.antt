-- What is read as it is where no item of a list is chosen has one combination, the choice of nothing.
use Rattle.std.proofs.Common.{◌≡◌, ◌∙◌, Bool, true, false, not, List, [], ◌∷◌, ◌++◌, ap, sym, refl, None}
use Rattle.std.specs.List.{flat_map, list_any}
use Rattle.std.specs.Option.{option_or}
use Rattle.std.proofs.lemmas.Bool.{false≢true, or_parts, or_from, not-false}
use Rattle.std.proofs.lemmas.List.Elements.{filter_map-append}
use Rattle.cfa_vars.specs.declared.expanding.Expanded.{Expanded}
use Rattle.cfa_vars.specs.declared.expanding.Expanded.TheVariants.{Done, Unresolved, TooLong}
use Rattle.cfa_vars.specs.References.{names_in}
use Rattle.cfa_vars.specs.Scopes.{InScope, look, key_of}
use Rattle.cfa_vars.specs.Expansion.{is_done, expanded}
use Rattle.cfa_vars.specs.Choices.{list_under, lists_named, lists_among, all_choices, are_too_many}
use Rattle.cfa_vars.specs.lemmas.Plain.{plain_is_set, plain_has_no_list}
use Rattle.cfa_defines.specs.declared.reads.Read.{Read}
use Rattle.cfa_defines.specs.declared.reads.Read.TheVariants.{Text as a_text, List as a_list}
use Rattle.cfa_defines.specs.declared.combining.Combined.TheVariants.{Found as found}
use Rattle.cfa_defines.specs.OwnTexts.{scalar_names, first_lacking, is_long_list, has_too_many, choices_among, is_past_limit, has_too_long, found_or_too_long, combined_by, combined}
use Rattle.cfa_defines.specs.OfTheCode.{needs_choice}

within : (e : Expanded) → is_done e ≡ true → is_past_limit e ≡ false
within (Done whole) h = refl
within (Unresolved name) h = refl
within TooLong h = absurd (false≢true h)

module _ (scopes : InScope) where
  none_lacks : (reads : List Read) → list_any (needs_choice scopes) reads ≡ false → first_lacking scopes reads ≡ None
  none_lacks [] h = refl
  none_lacks (a_text content ∷ reads) h =
      let parts = or_parts (not (is_done (expanded scopes [] content))) (list_any (needs_choice scopes) reads) h in
      ap (λ o. option_or o (first_lacking scopes reads)) (plain_is_set scopes content (not-false (is_done (expanded scopes [] content)) parts.0)) ∙ none_lacks reads parts.1
  none_lacks (a_list name ∷ reads) h = absurd (false≢true (sym h))

  none_named : (reads : List Read) → list_any (needs_choice scopes) reads ≡ false → lists_named scopes (flat_map scalar_names reads) ≡ []
  none_named [] h = refl
  none_named (a_text content ∷ reads) h =
      let parts = or_parts (not (is_done (expanded scopes [] content))) (list_any (needs_choice scopes) reads) h in
      filter_map-append (λ name. list_under (key_of scopes name) (look scopes name)) (names_in content) (flat_map scalar_names reads)
      ∙ ap (λ ls. ls ++ lists_named scopes (flat_map scalar_names reads)) (plain_has_no_list scopes content (not-false (is_done (expanded scopes [] content)) parts.0))
      ∙ none_named reads parts.1
  none_named (a_list name ∷ reads) h = absurd (false≢true (sym h))

  none_long : (reads : List Read) → list_any (needs_choice scopes) reads ≡ false → list_any (is_long_list scopes) reads ≡ false
  none_long [] h = refl
  none_long (a_text content ∷ reads) h = none_long reads (or_parts (not (is_done (expanded scopes [] content))) (list_any (needs_choice scopes) reads) h).1
  none_long (a_list name ∷ reads) h = absurd (false≢true (sym h))

  none_too_long : (reads : List Read) → list_any (needs_choice scopes) reads ≡ false → has_too_long scopes reads [] ≡ false
  none_too_long [] h = refl
  none_too_long (a_text content ∷ reads) h =
      let parts = or_parts (not (is_done (expanded scopes [] content))) (list_any (needs_choice scopes) reads) h in
      or_from (is_past_limit (expanded scopes [] content)) (has_too_long scopes reads []) (within (expanded scopes [] content) (not-false (is_done (expanded scopes [] content)) parts.0)) (none_too_long reads parts.1)
  none_too_long (a_list name ∷ reads) h = absurd (false≢true (sym h))

  none_among : (reads : List Read) → list_any (needs_choice scopes) reads ≡ false → lists_among scopes (flat_map scalar_names reads) ≡ []
  none_among reads h = rw (none_named reads h) refl

  none_too_many : (reads : List Read) → list_any (needs_choice scopes) reads ≡ false → has_too_many scopes reads ≡ false
  unfolding are_too_many
  none_too_many reads h =
      or_from (are_too_many (lists_among scopes (flat_map scalar_names reads))) (list_any (is_long_list scopes) reads) (ap are_too_many (none_among reads h)) (none_long reads h)

  one_choice : (reads : List Read) → list_any (needs_choice scopes) reads ≡ false → choices_among scopes reads ≡ [] ∷ []
  one_choice reads h = ap all_choices (none_among reads h)

  pub one_combination : (reads : List Read) → list_any (needs_choice scopes) reads ≡ false → found ([] ∷ []) ≡ combined scopes reads
  unfolding combined
  one_combination reads h =
      let short = or_from (has_too_long scopes reads []) false (none_too_long reads h) refl in
      sym (
      ap (λ o. combined_by scopes reads o (has_too_many scopes reads)) (none_lacks reads h)
      ∙ ap (combined_by scopes reads None) (none_too_many reads h)
      ∙ ap (λ choices. found_or_too_long (list_any (has_too_long scopes reads) choices) choices) (one_choice reads h)
      ∙ ap (λ b. found_or_too_long b ([] ∷ [])) short)
