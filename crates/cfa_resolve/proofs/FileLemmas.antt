-- Promisers that are written as directories, and the lengths of the texts that promises give.
use Rattle.std.proofs.Common.{◌≡◌, ◌∙◌, ◌-◌, ◌≤◌, ℕ, false, List, ◌++◌, length, take, drop, codes, if◌then◌else◌, append_assoc, ap, sym, lit≤}
use Rattle.std.specs.Str.{bytes_eq}
use Rattle.std.proofs.lemmas.Bool.{false_from_ne_true}
use Rattle.std.proofs.lemmas.List.{take-append-drop}
use Rattle.cfa_base.specs.lemmas.EqualTexts.{is_text}
use Rattle.cfa_base.specs.declared.limits.TheConstants.{MOST_TEXT_BYTES}
use Rattle.cfa_tree.specs.Tree.{ValueTree}
use Rattle.cfa_vars.specs.Scopes.{InScope}
use Rattle.cfa_vars.specs.Expansion.{Chosen}
use Rattle.cfa_functions.specs.declared.reading.ValueText.{ValueText}
use Rattle.cfa_functions.specs.declared.reading.ValueText.TheVariants.{Text as whole_text, Unresolved as text_unresolved, TooLong as text_too_long}
use Rattle.cfa_functions.specs.Calls.{text_given}
use Rattle.cfa_functions.specs.lemmas.Lengths.{IsWithin, text_is_within}
use Rattle.cfa_acts.specs.declared.acts.Act.{Act}
use Rattle.cfa_bodies.specs.Bodies.{whole_or_empty}
use Rattle.cfa_resolve.specs.FileActs.{is_directory_form, path_part}

not_ending : (s n : List ℕ) (i : ℕ) → ((front : List ℕ) → s ≡ front ++ n → ⊥) → bytes_eq (drop i s) n ≡ false
not_ending s n i none = false_from_ne_true (bytes_eq (drop i s) n) (λ e. none (take i s) (sym (take-append-drop i s) ∙ ap (λ t. take i s ++ t) (is_text (drop i s) n e)))

pub no_directory_form : (s : List ℕ) → ((front : List ℕ) → s ≡ front ++ codes "/." → ⊥) → is_directory_form s ≡ false
no_directory_form s none = not_ending s (codes "/.") (length s - 2) none

pub whole_path_part : (s : List ℕ) → ((front : List ℕ) → s ≡ front ++ codes "/." → ⊥) → path_part s ≡ s
whole_path_part s none = ap (λ b. if b then take (length s - 2) s else s) (no_directory_form s none)

-- ---- lengths

whole_short : (given : ValueText) → IsWithin given → length (whole_or_empty given) ≤ 65536
whole_short (whole_text content) h = h
whole_short (text_unresolved name) h = lit≤ tt
whole_short text_too_long h = lit≤ tt

-- a text that a value gives is within the limit
pub given_short : (scopes : InScope) (choice : Chosen) (v : ValueTree) → length (whole_or_empty (text_given scopes choice v)) ≤ MOST_TEXT_BYTES
given_short scopes choice v = whole_short (text_given scopes choice v) (text_is_within scopes choice v)

-- ---- acts, one after the other

pub three_parts : (s0 s1 s2 x o1 e o2 p : List Act) → s0 ≡ x → s1 ≡ s0 ++ o1 → o1 ≡ e → s2 ≡ s1 ++ o2 → o2 ≡ p → s2 ≡ x ++ (e ++ p)
three_parts s0 s1 s2 x o1 e o2 p first second is_e third is_p =
    third ∙ ap (λ (t : List Act). t ++ o2) second ∙ ap (λ (t : List Act). (t ++ o1) ++ o2) first
    ∙ append_assoc x o1 o2 ∙ ap (λ (t : List Act). x ++ (t ++ o2)) is_e ∙ ap (λ (t : List Act). x ++ (e ++ t)) is_p
