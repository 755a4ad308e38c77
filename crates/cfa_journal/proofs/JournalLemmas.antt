-- Records in their places: bytes are a journal in one way.
use Rattle.std.proofs.Common.{◌≡◌, ℕ, suc, List, [], ◌∷◌, ◌++◌, length, None, refl, sym, ap, ◌∙◌}
use Rattle.cfa_base.specs.Lacking.{Lacks}
use Rattle.cfa_rows.specs.Rows.{Reads}
use Rattle.cfa_rows.specs.lemmas.Cuts.{one_cut, no_cut}
use Rattle.cfa_rows.specs.lemmas.Rows.{first_line}
use Rattle.cfa_journal.specs.declared.records.Record.{Record}
use Rattle.cfa_journal.specs.declared.positions.Position.{Position}
use Rattle.cfa_journal.specs.Records.{record_text}
use Rattle.cfa_journal.specs.Positions.{MayStand, InPlaceFrom, behind, behind_all}
use Rattle.cfa_journal.specs.Journals.{journal_text}
use Rattle.cfa_journal.proofs.LineLemmas.{record_tells, record-lacks}

pub InPlace-push : (position : Position) (records : List Record) (r : Record) → InPlaceFrom position records → MayStand (behind_all position records) r → InPlaceFrom position (records ++ r ∷ [])
InPlace-push position [] r order next = (next, tt)
InPlace-push position (first ∷ records) r order next = (order.0, InPlace-push (behind position first) records r order.1 next)

pub behind_all-push : (position : Position) (records : List Record) (r : Record) → behind_all position (records ++ r ∷ []) ≡ behind (behind_all position records) r
behind_all-push position [] r = refl
behind_all-push position (first ∷ records) r = behind_all-push (behind position first) records r

pub one_reading : (position : Position) (records other : List Record) (rest rest' : List ℕ) → InPlaceFrom position records → InPlaceFrom position other → Lacks 10 rest → Lacks 10 rest' → journal_text records ++ rest ≡ journal_text other ++ rest' → (records ≡ other) × (rest ≡ rest')
one_reading position [] [] rest rest' order order' torn torn' e = (refl, e)
one_reading position [] (r ∷ rs) rest rest' order order' torn torn' e = absurd (no_cut 10 rest (record_text r) (journal_text rs ++ rest') torn (e ∙ first_line record_text r rs rest'))
one_reading position (r ∷ rs) [] rest rest' order order' torn torn' e = absurd (no_cut 10 rest' (record_text r) (journal_text rs ++ rest) torn' (sym e ∙ first_line record_text r rs rest))
one_reading position (r ∷ rs) (r' ∷ rs') rest rest' order order' torn torn' e =
    let cut = one_cut 10 (record_text r) (journal_text rs ++ rest) (record_text r') (journal_text rs' ++ rest') (record-lacks r order.0.0) (record-lacks r' order'.0.0) (sym (first_line record_text r rs rest) ∙ e ∙ first_line record_text r' rs' rest') in
    let same : r ≡ r' = record_tells r r' order.0.0 order'.0.0 cut.0 in
    let order'' : InPlaceFrom (behind position r) rs' = rw same order'.1 in
    let more = one_reading (behind position r) rs rs' rest rest' order.1 order'' torn torn' cut.1 in
    let tail : rs ≡ rs' = more.0 in
    (cc, more.1)

-- what is a journal has no bad line
pub never_bad : (position : Position) (records before : List Record) (rest line behind_line : List ℕ) → InPlaceFrom position records → Lacks 10 rest → InPlaceFrom position before → Lacks 10 line → Reads record_text (MayStand (behind_all position before)) line None → journal_text records ++ rest ≡ journal_text before ++ (line ++ 10 ∷ behind_line) → ⊥
never_bad position [] [] rest line behind_line order torn order' a_line none e = no_cut 10 rest line behind_line torn e
never_bad position [] (r ∷ before) rest line behind_line order torn order' a_line none e = no_cut 10 rest (record_text r) (journal_text before ++ (line ++ 10 ∷ behind_line)) torn (e ∙ first_line record_text r before (line ++ 10 ∷ behind_line))
never_bad position (r ∷ rs) [] rest line behind_line order torn order' a_line none e =
    let cut = one_cut 10 (record_text r) (journal_text rs ++ rest) line behind_line (record-lacks r order.0.0) a_line (sym (first_line record_text r rs rest) ∙ e) in
    none r order.0 cut.0
never_bad position (r ∷ rs) (r' ∷ before) rest line behind_line order torn order' a_line none e =
    let cut = one_cut 10 (record_text r) (journal_text rs ++ rest) (record_text r') (journal_text before ++ (line ++ 10 ∷ behind_line)) (record-lacks r order.0.0) (record-lacks r' order'.0.0) (sym (first_line record_text r rs rest) ∙ e ∙ first_line record_text r' before (line ++ 10 ∷ behind_line)) in
    let same : r ≡ r' = record_tells r r' order.0.0 order'.0.0 cut.0 in
    let order'' : InPlaceFrom (behind position r) before = rw same order'.1 in
    let none' : Reads record_text (MayStand (behind_all (behind position r) before)) line None = rw same none in
    never_bad (behind position r) rs before rest line behind_line order.1 torn order'' a_line none' cut.1

-- the first bad line stands behind one number of records
pub one_bad : (position : Position) (before other : List Record) (line rest line' rest' : List ℕ) → InPlaceFrom position before → InPlaceFrom position other → Lacks 10 line → Lacks 10 line' → Reads record_text (MayStand (behind_all position before)) line None → Reads record_text (MayStand (behind_all position other)) line' None → journal_text before ++ (line ++ 10 ∷ rest) ≡ journal_text other ++ (line' ++ 10 ∷ rest') → length before ≡ length other
one_bad position [] [] line rest line' rest' order order' a_line a_line' none none' e = refl
one_bad position [] (r ∷ other) line rest line' rest' order order' a_line a_line' none none' e =
    let cut = one_cut 10 line rest (record_text r) (journal_text other ++ (line' ++ 10 ∷ rest')) a_line (record-lacks r order'.0.0) (e ∙ first_line record_text r other (line' ++ 10 ∷ rest')) in
    absurd (none r order'.0 (sym cut.0))
one_bad position (r ∷ before) [] line rest line' rest' order order' a_line a_line' none none' e =
    let cut = one_cut 10 (record_text r) (journal_text before ++ (line ++ 10 ∷ rest)) line' rest' (record-lacks r order.0.0) a_line' (sym (first_line record_text r before (line ++ 10 ∷ rest)) ∙ e) in
    absurd (none' r order.0 cut.0)
one_bad position (r ∷ before) (r' ∷ other) line rest line' rest' order order' a_line a_line' none none' e =
    let cut = one_cut 10 (record_text r) (journal_text before ++ (line ++ 10 ∷ rest)) (record_text r') (journal_text other ++ (line' ++ 10 ∷ rest')) (record-lacks r order.0.0) (record-lacks r' order'.0.0) (sym (first_line record_text r before (line ++ 10 ∷ rest)) ∙ e ∙ first_line record_text r' other (line' ++ 10 ∷ rest')) in
    let same : r ≡ r' = record_tells r r' order.0.0 order'.0.0 cut.0 in
    let order'' : InPlaceFrom (behind position r) other = rw same order'.1 in
    let none'' : Reads record_text (MayStand (behind_all (behind position r) other)) line' None = rw same none' in
    let more : length before ≡ length other = one_bad (behind position r) before other line rest line' rest' order.1 order'' a_line a_line' none none'' cut.1 in
    ap suc more
