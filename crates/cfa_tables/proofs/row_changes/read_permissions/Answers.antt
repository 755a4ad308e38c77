use Rattle.cfa_tables.proofs.RowChangeLemmas.{no_permissions, text_of}
use Rattle.cfa_tables.proofs.row_changes.read_permissions.Goals as goal

pub returns-in-Some : goal.returns-in-Some
returns-in-Some c =
    let read = rw c.in-Some.is at c.in_ok-path.ensures in
    (read.0, text_of _ _ read.1)

pub returns-in-None : goal.returns-in-None
returns-in-None c change is same =
    let none = rw c.in-None.is at c.in_ok-path.ensures in
    no_permissions _ change none is same
