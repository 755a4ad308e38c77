use Rattle.cfa_tables.proofs.RowLemmas.{behind_space, behind_cut, behind_of}
use Rattle.cfa_tables.proofs.rows.read_behind_row.Goals as goal

pub returns-in_default : goal.returns-in_default
returns-in_default c row is same = behind_space row _ same c.in_default.ensures.none

pub returns-in_default-read_number : goal.returns-in_default-read_number
returns-in_default-read_number c row is same = c.in_default-read_number.ensures row.0 is.0 (behind_cut row _ _ _ is same c.in-Some.ensures.some).0

pub returns-in_default-read_lock_row : goal.returns-in_default-read_lock_row
returns-in_default-read_lock_row c row is same = c.in_default-read_lock_row.ensures row.1 is.1 (behind_cut row _ _ _ is same c.in-Some.ensures.some).1

pub returns : goal.returns
returns c =
    let length = c.in-Some-read_number.ensures in
    let row = c.in-Some-read_lock_row.ensures in
    ((length.0, row.0), behind_of _ _ _ _ _ length.1 row.1 c.in-Some.ensures.some)
