-- A pattern that matches nowhere in a text replaces nothing there.
use Rattle.std.proofs.Common.{◌≡◌, ℕ, Bool, true, false, List, [], Option, Some, None, zero, suc, refl, ◌+◌, length, ap, ◌∙◌}
use Rattle.std.specs.Prelude.{is_some}
use Rattle.regex.specs.Patterns.{Re, Match, find_str, find_all_str}
use Rattle.regex.specs.Replace.{replaced_by}
use Rattle.regex_hir.specs.Find.{matches_from}
use Rattle.cfa_base.specs.Patterns.{PatternText, matches_in, finds, replaced, replaced_in, all_or_first, tree_of, built_text}

none_found : {A : Type 0} (o : Option A) → is_some o ≡ false → o ≡ None
none_found None e = refl
none_found (Some x) e = absurd cc

none_left : (search_from : ℕ → Option Match) (n : ℕ) → matches_from search_from n None ≡ []
unfolding matches_from
none_left search_from zero = refl
none_left search_from (suc n) = refl

nothing_replaced : (value text : List ℕ) (all : Bool) → replaced_by (λ m. value) text 0 (all_or_first all []) ≡ text
unfolding replaced_by
nothing_replaced value text true = refl
nothing_replaced value text false = refl

tree_stays : (tree : Option Re) (text value : List ℕ) (all : Bool) → finds tree text ≡ false → replaced_in tree text value all ≡ text
tree_stays None text value all miss = refl
tree_stays (Some tree) text value all miss =
    let none : find_str tree text 0 ≡ None = none_found (find_str tree text 0) miss in
    let empty : find_all_str tree text ≡ [] =
    ap (λ (found : Option Match). matches_from (find_str tree text) (length text + 1) found) none ∙ none_left (find_str tree text) (length text + 1) in
    ap (λ (found : List Match). replaced_by (λ m. value) text 0 (all_or_first all found)) empty ∙ nothing_replaced value text all

pub unmatched_stays : (pattern : PatternText) (text value : List ℕ) (all : Bool) → matches_in pattern text ≡ false → replaced pattern text value all ≡ text
unfolding matches_in replaced
unmatched_stays pattern text value all miss = tree_stays (tree_of (built_text pattern.how pattern.text)) text value all miss
