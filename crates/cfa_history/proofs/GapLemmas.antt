-- Gaps by the last writes that a map has.
use Rattle.std.proofs.Common.{◌≡◌, ℕ, ◌+◌, ◌-◌, ◌<◌, true, false, List, [], ◌∷◌, ◌++◌, cond, Option, Some, None, map, get_or, length, take, drop, refl, sym, ap, ◌∙◌}
use Rattle.std.proofs.Math.Seq.{take-length}
use Rattle.std.proofs.lemmas.List.{length-drop, drop_more}
use Rattle.std.specs.FinMap as finite
use Rattle.std.specs.Str.{bytes_eq}
use Rattle.cfa_base.specs.TextMaps.{TextMap, text_cmp}
use Rattle.cfa_base.specs.lemmas.TextMaps.{get-put}
use Rattle.cfa_rows.specs.Rows.{last_after}
use Rattle.cfa_journal.specs.declared.records.Record.{Record}
use Rattle.cfa_history.specs.declared.gaps.Write.{Write}
use Rattle.cfa_history.specs.Gaps.{Written, to_path, last_write, gap_at, gaps_behind, gaps_on}

-- one write more
last_after-push : (path : List ℕ) (last : Option Write) (told : List Written) (w : Written) → last_after last (map (λ w. w.write) (to_path path (told ++ w ∷ []))) ≡ cond (bytes_eq w.path path) (Some w.write) (last_after last (map (λ w. w.write) (to_path path told)))
last_after-push path last [] w =
    elim (bytes_eq w.path path) as (λ b. last_after last (map (λ w. w.write) (cond b (w ∷ []) [])) ≡ cond b (Some w.write) last) [
      | true ↦ refl
      | false ↦ refl
    ]
last_after-push path last (first ∷ told) w =
    elim (bytes_eq first.path path) as (λ b. last_after last (map (λ w. w.write) (cond b (first ∷ to_path path (told ++ w ∷ [])) (to_path path (told ++ w ∷ [])))) ≡ cond (bytes_eq w.path path) (Some w.write) (last_after last (map (λ w. w.write) (cond b (first ∷ to_path path told) (to_path path told))))) [
      | true ↦ last_after-push path (Some first.write) told w
      | false ↦ last_after-push path last told w
    ]

-- a map has the last write to each path
abbrev HasLast : TextMap Write → List Written → Type 0
HasLast latest before = (path : List ℕ) → finite.get latest path ≡ last_write path before

has_next : (latest : TextMap Write) (before : List Written) (w : Written) → HasLast latest before → HasLast (finite.insert latest w.path w.write) (before ++ w ∷ [])
has_next latest before w has path =
    get-put latest w.path w.write path
    ∙ ap (cond (bytes_eq w.path path) (Some w.write)) (has path)
    ∙ sym (last_after-push path None before w)

gaps_alike : (latest : TextMap Write) (before told : List Written) → HasLast latest before → gaps_on latest told ≡ gaps_behind before told
gaps_alike latest before [] has = refl
gaps_alike latest before (w ∷ rest) has =
    ap (λ o. gap_at o w ++ gaps_on (finite.insert latest w.path w.write) rest) (has w.path)
    ∙ ap (λ gaps. gap_at (last_write w.path before) w ++ gaps) (gaps_alike (finite.insert latest w.path w.write) (before ++ w ∷ []) rest (has_next latest before w has))

pub gaps_from_none : (told : List Written) → gaps_on finite.empty told ≡ gaps_behind [] told
gaps_from_none told = gaps_alike finite.empty [] told (λ path. finite.get-empty text_cmp path)

to_the_end : (records : List Record) (i : ℕ) → take (length records - i) (drop i records) ≡ drop i records
to_the_end records i = ap (λ k. take k (drop i records)) (sym (length-drop i records)) ∙ take-length (drop i records)

-- something of the records from the next one on, and of those from this one on
pub rest_on : {A : Type 0} (f : List Record → A) (records : List Record) (i : ℕ) → f (take (length records - (i + 1)) (drop (i + 1) records)) ≡ f (drop (i + 1) records)
rest_on f records i = ap f (to_the_end records (i + 1))

pub this_on : {A : Type 0} (f : List Record → A) (records : List Record) (i : ℕ) (item : Record) → i < length records → item ≡ get_or records i item → f (item ∷ take (length records - (i + 1)) (drop (i + 1) records)) ≡ f (drop i records)
this_on f records i item before item_is =
    ap (λ rest. f (item ∷ rest)) (to_the_end records (i + 1))
    ∙ ap (λ x. f (x ∷ drop (i + 1) records)) item_is
    ∙ ap f (sym (drop_more records i item before))
