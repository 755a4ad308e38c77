-- Lines that couldn't all be put.
use Rattle.std.proofs.Common.{◌≡◌, ℕ, ◌+◌, ◌≤◌, ◌<◌, suc, List, ◌∷◌, ◌++◌, length, take, drop, get_or, option_map, Result, Ok, Err, OnErr, sym, ap, subst, ◌∙◌, arith}
use Rattle.std.proofs.lemmas.Grind.{flat_map-append}
use Rattle.std.proofs.lemmas.List.{length-append, take-append-drop, take-append-le}
use Rattle.std.proofs.Math.Seq.{drop-cons, take-append-add}
use Rattle.cfa_base.specs.Causes.{Rose}
use Rattle.cfa_base.specs.Shown.{Shown, Follows, HasFailed, followed}
use Rattle.cfa_outside.specs.Sinks.{adds_bytes}
use Rattle.cfa_output.specs.Puts.{PutsShort, puts_both}
use Rattle.cfa_agent.specs.Ran.{text_of_lines}

-- bytes before those that couldn't all be put, and bytes behind them
module _ (a b c : List ℕ) (before mid after : Shown (List ℕ)) (put : Follows (adds_bytes a) before mid) (short : PutsShort b mid after) where
  part_is : take (length a + short.count) (a ++ (b ++ c)) ≡ a ++ take short.count b
  part_is = take-append-add a (b ++ c) short.count ∙ ap (λ part. a ++ part) (take-append-le short.count b c (omega (arith, short.short)))

  lengths : length (a ++ (b ++ c)) ≡ length a + (length b + length c)
  lengths = length-append a (b ++ c) ∙ ap (λ n. length a + n) (length-append b c)

  same_faults : mid.faults ≡ before.faults
  same_faults = ap (λ (s : Shown (List ℕ)). s.faults) put

  failed_behind : HasFailed (adds_bytes (a ++ take short.count b)) before after
  failed_behind = record {
    told =
        short.failed.told ∙ ap (λ (s : Shown (List ℕ)). option_map (adds_bytes (take short.count b)) s.told) put
        ∙ ap (λ (s : Shown (List ℕ)). s.told) (puts_both a (take short.count b) before);
    rose = let R : ℕ → Type 0 = λ n. Rose n after.faults in subst R same_faults short.failed.rose;
    later = let L : ℕ → Type 0 = λ n. n ≤ after.faults in subst L same_faults short.failed.later;
  }

  short_within : PutsShort (a ++ (b ++ c)) before after
  short_within = record {
    count = length a + short.count;
    short = let is = lengths in omega (arith, is, short.short);
    failed = subst (λ part. HasFailed (adds_bytes part) before after) (sym part_is) failed_behind;
  }

parts_of : (lines : List (List ℕ)) (i : ℕ) (d : List ℕ) → i < length lines →
    text_of_lines lines ≡ text_of_lines (take i lines) ++ (get_or lines i d ++ text_of_lines (drop (suc i) lines))
parts_of lines i d within =
    ap text_of_lines (sym (take-append-drop i lines))
    ∙ flat_map-append (λ line. line) (take i lines) (drop i lines)
    ∙ ap (λ rest. text_of_lines (take i lines) ++ text_of_lines rest) (drop-cons lines i d within)

-- the lines before one were put, and it couldn't all be put
pub short_lines : (lines : List (List ℕ)) (i : ℕ) (d line : List ℕ) → i < length lines → line ≡ get_or lines i d → (before mid after : Shown (List ℕ)) →
    Follows (adds_bytes (text_of_lines (take i lines))) before mid → PutsShort line mid after → PutsShort (text_of_lines lines) before after
short_lines lines i d line within is before mid after put short =
    let P : List ℕ → Type 0 = λ text. PutsShort text before after in
    let S : List ℕ → Type 0 = λ text. PutsShort text mid after in
    subst P (sym (parts_of lines i d within))
    (short_within (text_of_lines (take i lines)) (get_or lines i d) (text_of_lines (drop (suc i) lines)) before mid after put (subst S is short))

-- what holds is true of every error
pub on_any_err : {T E : Type 0} {X : Type 0} (result : Result T E) → X → OnErr result X
on_any_err (Ok answer) x = tt
on_any_err (Err error) x = x
