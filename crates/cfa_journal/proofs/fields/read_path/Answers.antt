use Rattle.std.proofs.Common.{◌≡◌, ap, sym, ◌∙◌, length, arith}
use Rattle.std.proofs.lemmas.Bool.{eqb-true}
use Rattle.cfa_base.specs.lemmas.Escapes.{fields_tell_texts}
use Rattle.cfa_journal.proofs.fields.read_path.Goals as goal

pub returns-then-is_empty : goal.returns-then-is_empty
returns-then-is_empty c row fits same =
    let read = rw c.in-Some.is at c.in_ok-path.ensures in
    let equal : row ≡ c.in-Some.path = fields_tell_texts row c.in-Some.path (same ∙ sym read.1) in
    let none : length c.as_str.result.now ≡ 0 = eqb-true _ _ (sym c.is_empty.ensures ∙ c.if-is_empty.true) in
    let length_is : length row ≡ 0 = ap length (equal ∙ sym c.as_str.ensures) ∙ none in
    omega (arith, length_is, fits.1)
