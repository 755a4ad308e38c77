use Rattle.cfa_tables.proofs.RowChangeLemmas.{no_service, text_of}
use Rattle.cfa_tables.proofs.row_changes.read_service.Goals as goal

pub returns-in-Some : goal.returns-in-Some
returns-in-Some c =
    let read = rw c.in-Some.is at c.in_ok-name.ensures in
    (read.0, text_of _ _ read.1)

pub returns-in-None : goal.returns-in-None
returns-in-None c change is same =
    let none = rw c.in-None.is at c.in_ok-name.ensures in
    no_service _ change none is same
