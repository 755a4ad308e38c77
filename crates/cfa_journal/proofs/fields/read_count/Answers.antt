use Rattle.std.proofs.Common.{◌≡◌, arith}
use Rattle.cfa_journal.proofs.FieldLemmas.{same_number, count_small}
use Rattle.cfa_journal.proofs.fields.read_count.Goals as goal
use Rattle.cfa_journal.proofs.fields.read_count.Goals.{else-number-ge1-via-then-number-ge1+else-number-from, else-number-ge1-via-else-number-ge1}

pub returns-else-number-ge1 : goal.returns-else-number-ge1
returns-else-number-ge1 c row fits same =
    let read = c.in_ok-number.ensures in
    let equal : c.in_ok-number.number ≡ row = same_number c.in_ok-number.number row c.args.text.now read.0 (count_small row fits) read.1 same in
    elim c.else-number-ge1.branch [
      | else-number-ge1-via-then-number-ge1+else-number-from w ↦ omega (arith, w.from.ensures)
      | else-number-ge1-via-else-number-ge1 w ↦ omega arith
    ]
