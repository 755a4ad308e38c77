-- Fields of lines: a line has four fields in one way, and each kind of fields tells what it was written of.
use Rattle.std.proofs.Common.{◌≡◌, ℕ, true, false, List, Option, Some, None, Bool, refl, sym, ◌∙◌}
use Rattle.std.specs.Prelude.{codes, IsTrue, not, ◌==◌}
use Rattle.std.specs.List.{list_all}
use Rattle.cfa_base.specs.lemmas.EqualTexts.{texts_differ}
use Rattle.cfa_rows.specs.Cuts.{IsCut}
use Rattle.cfa_base.specs.Lacking.{Lacks}
use Rattle.cfa_rows.specs.Rows.{◌then◌}
use Rattle.cfa_rows.specs.lemmas.Cuts.{one_cut, no_cut, Lacks-from_test}
use Rattle.cfa_tables.specs.Fields.{IsFourFields, HasFewerFields}
use Rattle.cfa_tables.specs.Tables.{running_text, enabled_text}

-- Four fields.

pub first_cut : {line a b c d : List ℕ} → IsFourFields line a b c d → (first rest : List ℕ) → IsCut 32 line first rest → (a ≡ first) × (b then c then d ≡ rest)
first_cut {line} {a} {b} {c} {d} f first rest cut = one_cut 32 a (b then c then d) first rest f.lacks_first cut.first (f.whole ∙ cut.whole)

pub second_cut : {line a b c d : List ℕ} → IsFourFields line a b c d → (first rest second rest' : List ℕ) → IsCut 32 line first rest → IsCut 32 rest second rest' → (b ≡ second) × (c then d ≡ rest')
second_cut {line} {a} {b} {c} {d} f first rest second rest' cut cut' = one_cut 32 b (c then d) second rest' f.lacks_second cut'.first ((first_cut f first rest cut).1 ∙ cut'.whole)

pub none_at_first : (line : List ℕ) → Lacks 32 line → HasFewerFields line
none_at_first line lacks a b c d f = no_cut 32 line a (b then c then d) lacks (sym f.whole)

pub none_at_second : (line first rest : List ℕ) → IsCut 32 line first rest → Lacks 32 rest → HasFewerFields line
none_at_second line first rest cut lacks a b c d f = no_cut 32 rest b (c then d) lacks (sym (first_cut f first rest cut).1)

pub none_at_third : (line first rest second rest' : List ℕ) → IsCut 32 line first rest → IsCut 32 rest second rest' → Lacks 32 rest' → HasFewerFields line
none_at_third line first rest second rest' cut cut' lacks a b c d f = no_cut 32 rest' c d lacks (sym (second_cut f first rest second rest' cut cut').1)

-- the fields of a line are one
pub record SameFields (a b c d a' b' c' d' : List ℕ) : Type 0 where
  pub first : a ≡ a'
  pub second : b ≡ b'
  pub third : c ≡ c'
  pub fourth : d ≡ d'

pub same_fields : {line a b c d a' b' c' d' : List ℕ} → IsFourFields line a b c d → IsFourFields line a' b' c' d' → SameFields a b c d a' b' c' d'
same_fields {line} {a} {b} {c} {d} {a'} {b'} {c'} {d'} f g =
    let one = one_cut 32 a (b then c then d) a' (b' then c' then d') f.lacks_first g.lacks_first (f.whole ∙ sym g.whole) in
    let two = one_cut 32 b (c then d) b' (c' then d') f.lacks_second g.lacks_second one.1 in
    let three = one_cut 32 c d c' d' f.lacks_third g.lacks_third two.1 in
    record { first = one.0; second = two.0; third = three.0; fourth = three.1 }

-- Fields.

pub running-lacks : (byte : ℕ) → IsTrue (list_all (λ b. not (b == byte)) (codes "running")) → IsTrue (list_all (λ b. not (b == byte)) (codes "stopped")) → (b : Bool) → Lacks byte (running_text b)
running-lacks byte first second true = Lacks-from_test byte (codes "running") first
running-lacks byte first second false = Lacks-from_test byte (codes "stopped") second

pub enabled-lacks : (byte : ℕ) → IsTrue (list_all (λ b. not (b == byte)) (codes "enabled")) → IsTrue (list_all (λ b. not (b == byte)) (codes "disabled")) → (b : Bool) → Lacks byte (enabled_text b)
enabled-lacks byte first second true = Lacks-from_test byte (codes "enabled") first
enabled-lacks byte first second false = Lacks-from_test byte (codes "disabled") second

pub running_tells : (b c : Bool) → running_text b ≡ running_text c → b ≡ c
running_tells true true e = refl
running_tells true false e = absurd (texts_differ (codes "running") (codes "stopped") refl e)
running_tells false true e = absurd (texts_differ (codes "stopped") (codes "running") refl e)
running_tells false false e = refl

pub enabled_tells : (b c : Bool) → enabled_text b ≡ enabled_text c → b ≡ c
enabled_tells true true e = refl
enabled_tells true false e = absurd (texts_differ (codes "enabled") (codes "disabled") refl e)
enabled_tells false true e = absurd (texts_differ (codes "disabled") (codes "enabled") refl e)
enabled_tells false false e = refl

-- Options of texts.

pub some_or_none : (o : Option (List ℕ)) (text : List ℕ) → o ≡ Some text → o ≡ None → ⊥
some_or_none o text some none = cc

-- a line of four fields that are these
pub four_text : {line a b c d : List ℕ} (a' b' c' d' : List ℕ) → IsFourFields line a b c d → a' ≡ a → b' ≡ b → c' ≡ c → d' ≡ d → a' then b' then c' then d' ≡ line
four_text {line} {a} {b} {c} {d} a' b' c' d' four e f g h = rw (e, f, g, h) four.whole
