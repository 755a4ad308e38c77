use Rattle.cfa_tables.proofs.RowLemmas.{lock_space, lock_cut, lock_of}
use Rattle.cfa_tables.proofs.rows.read_lock_row.Goals as goal

pub returns-in_default : goal.returns-in_default
returns-in_default c row is same = lock_space row _ same c.in_default.ensures.none

pub returns-in_default-read_key : goal.returns-in_default-read_key
returns-in_default-read_key c row is same = c.in_default-read_key.ensures row.0 is.0 (lock_cut row _ _ _ is same c.in-Some.ensures.some).0

pub returns-in_default-read_number : goal.returns-in_default-read_number
returns-in_default-read_number c row is same = c.in_default-read_number.ensures row.1 is.1 (lock_cut row _ _ _ is same c.in-Some.ensures.some).1

pub returns : goal.returns
returns c =
    let key = c.in-Some-read_key.ensures in
    let moment = c.in-Some-read_number.ensures in
    ((key.0, moment.0), lock_of _ _ _ _ _ key.1 moment.1 c.in-Some.ensures.some)
