use Rattle.std.proofs.Common.{◌≡◌, arith}
use Rattle.cfa_journal.proofs.FieldLemmas.{same_number, moment_small}
use Rattle.cfa_journal.proofs.fields.read_moment.Goals as goal

pub returns-else-moment-le-LAST_MOMENT : goal.returns-else-moment-le-LAST_MOMENT
returns-else-moment-le-LAST_MOMENT c row fits same =
    let read = c.in_ok-moment.ensures in
    let equal : c.in_ok-moment.moment ≡ row = same_number c.in_ok-moment.moment row c.args.text.now read.0 (moment_small row fits) read.1 same in
    omega arith
