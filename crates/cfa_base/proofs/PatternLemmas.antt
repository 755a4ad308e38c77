-- A compiled `regex` and the tree that is read in its text find and replace alike.
use Rattle.std.proofs.Common.{◌≡◌, ◌≢◌, ℕ, ◌<◌, ◌≤◌, Bool, true, false, not, List, [], ◌∷◌, ◌++◌, Option, Some, None, is_some, chars, IsSomeAnd, IfSome, IsTrue, get_or, arith, refl, ap, ap₂, ◌∙◌, inl, inr, ◌⊎◌, length, slice_range}
use Rattle.std.proofs.lemmas.Bool.Decides.{nat_tests}
use Rattle.regex.specs.Patterns.{Re, Match, SameCaptures, default_config, Reads, Refuses, find_str, find_all_str}
use Rattle.regex.specs.Failures.{IsPattern}
use Rattle.regex.specs.Replace.{replacement_of, replaced_by, ExpandsTo}
use Rattle.regex.specs.declared.template.Piece.{Piece}
use Rattle.regex.proofs.ForCallers.{is_match_alike, replaced_alike}
use Rattle.regex_syntax.specs.Brackets.{Nested}
use Rattle.regex_syntax.specs.Grammar.{Names, read, group_count}
use Rattle.regex_syntax.specs.declared.error.ErrorKind.{ErrorKind}
use Rattle.regex_syntax.specs.declared.error.ErrorKind.TheVariants.{OutOfMemory}
use Rattle.regex.specs.Strings.{regex_pattern, regex_names}
use Rattle.regex.specs.declared.string.regex.Regex.{Regex}
use Rattle.std.specs.Coded.{coded_ℕ, coded_bool, coded_list}
use Rattle.std.proofs.Math.Logic.{∥∥₁_elim}
use base.Stored.{Coded-set}
use Rattle.cfa_base.specs.CompiledPatterns.{IsBuilt}
use Rattle.cfa_base.specs.Patterns.{built_text, pattern_of, within_limit, tree_of, finds, matches_in, all_or_first, replaced_in, replaced}
use Rattle.cfa_base.specs.declared.patterns.How.{How}

within : (found : Nested Re × Names) → found.0.depth ≤ default_config.nest_limit → within_limit (Some found) ≡ Some found.0.value
within found h = grind (arith, nat_tests)

past : (found : Nested Re × Names) → default_config.nest_limit < found.0.depth → within_limit (Some found) ≡ None
past found h = grind (arith, nat_tests)

-- what `Reads` says of a reading: a tree within the limit that captures as a does
abbrev IsReadIn : Option (Nested Re × Names) → Re → Names → Type 0
IsReadIn o a names = IsSomeAnd o (λ (re, found).
    (re.depth ≤ default_config.nest_limit) × SameCaptures a re.value × (names ≡ found) × (group_count a ≤ length names))

some_tree : (o : Option (Nested Re × Names)) (a : Re) (names : Names) → IsReadIn o a names → IsTrue (is_some (within_limit o))
some_tree None a names h = absurd h
some_tree (Some found) a names h = rw (within found h.0) refl

no_tree : (o : Option (Nested Re × Names)) → (o ≡ None) ⊎ IfSome o (λ (found, names). default_config.nest_limit < found.depth) →
    IsTrue (not (is_some (within_limit o)))
no_tree None h = refl
no_tree (Some found) (inl e) = absurd cc
no_tree (Some found) (inr deep) = rw (past found deep) refl

-- a text that `regex` reads is a pattern
pub pattern_of_reading : (built : List ℕ) → IsPattern default_config built → IsTrue (is_some (tree_of built))
unfolding Reads tree_of
pattern_of_reading built p = some_tree (read default_config (chars built)) _ _ p.2

-- and one that it refuses is none
pub no_pattern_of_refusal : (built : List ℕ) (kind : ErrorKind) → Refuses default_config built kind → kind ≢ OutOfMemory →
    IsTrue (not (is_some (tree_of built)))
unfolding Refuses tree_of
no_pattern_of_refusal built kind (inl memory) other = absurd (other memory)
no_pattern_of_refusal built kind (inr (inl none)) other = no_tree (read default_config (chars built)) (inl none)
no_pattern_of_refusal built kind (inr (inr deep)) other = no_tree (read default_config (chars built)) (inr deep.1)

found_in : (o : Option (Nested Re × Names)) (a : Re) (names : Names) → IsReadIn o a names →
    (text : List ℕ) → ((k : ℕ) → get_or text k 0 < 256) → is_some (find_str a text 0) ≡ finds (within_limit o) text
found_in None a names h text bytes = absurd h
found_in (Some found) a names h text bytes = rw (within found h.0) (is_match_alike h.1 text bytes true 0)

-- plain pieces write their bytes in the place of each match
plain_replacement : (text : Bool) (hay : List ℕ) (pieces : List Piece) (width : ℕ) (value : List ℕ) → ExpandsTo pieces value →
    (matches : List Match) (at : ℕ) → replacement_of text hay pieces width at matches ≡ replaced_by (λ m. value) hay at matches
unfolding replacement_of replaced_by
plain_replacement text hay pieces width value plain [] at = refl
plain_replacement text hay pieces width value plain (m ∷ ms) at =
    ap₂ ◌++◌ (ap (λ bytes. slice_range hay at m.start ++ bytes) (plain text hay _ _)) (plain_replacement text hay pieces width value plain ms m.trace.end)

replaced_with : (o : Option (Nested Re × Names)) (a : Re) (names : Names) → IsReadIn o a names →
    (text : List ℕ) → ((k : ℕ) → get_or text k 0 < 256) → (pieces : List Piece) (width : ℕ) (value : List ℕ) → ExpandsTo pieces value →
    (all : Bool) → replacement_of true text pieces width 0 (all_or_first all (find_all_str a text)) ≡ replaced_in (within_limit o) text value all
replaced_with None a names h text bytes pieces width value plain all = absurd h
replaced_with (Some found) a names h text bytes pieces width value plain true =
    rw (within found h.0) (replaced_alike h.1 text bytes true None pieces width ∙ plain_replacement true text pieces width value plain _ 0)
replaced_with (Some found) a names h text bytes pieces width value plain false =
    rw (within found h.0) (replaced_alike h.1 text bytes true (Some 1) pieces width ∙ plain_replacement true text pieces width value plain _ 0)

-- the compiled pattern is read in its built text
read_in_text : (how : How) (text : List ℕ) (regex : Regex) → IsBuilt how text regex →
    ∥ Reads default_config (built_text how text) regex.pattern.program.hir (regex_names regex) ∥₁
read_in_text how text regex built = rw (built.source, built.config) at built.read

-- it finds what its tree finds
pub matches_as_built : (how : How) (text : List ℕ) (regex : Regex) → IsBuilt how text regex →
    (hay : List ℕ) → ((k : ℕ) → get_or hay k 0 < 256) →
    is_some (find_str (regex_pattern regex) hay 0) ≡ matches_in (pattern_of how text) hay
unfolding Reads tree_of matches_in
matches_as_built how text regex built hay bytes =
    ∥∥₁_elim (read_in_text how text regex built) (Coded-set coded_bool _ _)
    (λ h. found_in (read default_config (chars (built_text how text))) _ _ h hay bytes)

-- and replaces what its tree would
pub replaced_as_built : (how : How) (text : List ℕ) (regex : Regex) → IsBuilt how text regex →
    (hay : List ℕ) → ((k : ℕ) → get_or hay k 0 < 256) → (pieces : List Piece) (width : ℕ) (value : List ℕ) → ExpandsTo pieces value →
    (all : Bool) → replacement_of true hay pieces width 0 (all_or_first all (find_all_str (regex_pattern regex) hay))
    ≡ replaced (pattern_of how text) hay value all
unfolding Reads tree_of replaced
replaced_as_built how text regex built hay bytes pieces width value plain all =
    ∥∥₁_elim (read_in_text how text regex built) (Coded-set (coded_list coded_ℕ) _ _)
    (λ h. replaced_with (read default_config (chars (built_text how text))) _ _ h hay bytes pieces width value plain all)
