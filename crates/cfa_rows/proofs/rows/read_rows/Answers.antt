use Rattle.std.proofs.Common.{◌≡◌, ◌-◌, length, ap, ◌∙◌}
use Rattle.std.specs.Prelude.{slice_get}
use Rattle.cfa_rows.specs.lemmas.Rows.{last_of-slice_get}
use Rattle.cfa_rows.proofs.ReadSoFar.{stops_here, goes_on}
use Rattle.cfa_rows.proofs.rows.read_rows.Goals as goal

pub returns-in-None-clause-bad : goal.returns-in-None-clause-bad
returns-in-None-clause-bad g c n e =
    let at_last = c.last.ensures.value ∙ ap (λ xs. slice_get xs (length xs - 1)) c.deref.ensures.value ∙ last_of-slice_get c.lines.rows.items in
    let none = rw c.in-None.is at c.in_ok-row.ensures in
    let same : n ≡ c.lines.number = cc in
    rw same (stops_here g.F.Format.form g.F.Format.follows _ _ _ _ _ _ _ c.lines.invariant c.in-Some.ensures.some at_last none)

pub lines-preserved : goal.lines-preserved
lines-preserved g c =
    let at_last = c.last.ensures.value ∙ ap (λ xs. slice_get xs (length xs - 1)) c.deref.ensures.value ∙ last_of-slice_get c.lines.rows.items in
    let reads = rw c.in-Some-2.is at c.in_ok-row.ensures in
    goes_on g.F.Format.form g.F.Format.follows _ _ _ _ _ _ _ c.lines.invariant c.in-Some.ensures.some at_last _ _ reads c.in_ok-push-in-Some-2.ensures.items
