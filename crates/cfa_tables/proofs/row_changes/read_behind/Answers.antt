use Rattle.cfa_tables.proofs.RowChangeLemmas.{no_behind, text_of}
use Rattle.cfa_tables.proofs.row_changes.read_behind.Goals as goal

pub returns-in-Some : goal.returns-in-Some
returns-in-Some c =
    let read = c.in-Some.ensures in
    (read.0, text_of _ _ read.1)

pub returns-in-None : goal.returns-in-None
returns-in-None c change is same = no_behind _ change c.in-None.ensures is same
