use Rattle.std.proofs.Common.{◌≡◌, sym, ◌∙◌, arith}
use Rattle.std.proofs.lemmas.Fmt.{decimal_injective}
use Rattle.cfa_tables.proofs.RowLemmas.{restarts_small}
use Rattle.cfa_tables.proofs.fields.read_restarts.Goals as goal

pub returns-else-number-from : goal.returns-else-number-from
returns-else-number-from c row fits same =
    let read = c.in_ok-number.ensures in
    let equal : c.in_ok-number.number ≡ row = decimal_injective c.in_ok-number.number row read.0 (restarts_small row fits) (read.1 ∙ sym same) in
    omega (arith, equal, fits, c.if-number-from.false, c.from.ensures)
