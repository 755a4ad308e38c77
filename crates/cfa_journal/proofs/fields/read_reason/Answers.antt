use Rattle.std.proofs.Common.{◌≡◌, sym, ⊎_elim, arith}
use Rattle.cfa_journal.proofs.FieldLemmas.{same_number, reason_small, tail_of}
use Rattle.cfa_journal.proofs.fields.read_reason.Goals as goal

pub returns-else-reason-ge1 : goal.returns-else-reason-ge1
returns-else-reason-ge1 c row fits same =
    let read = c.in_ok-reason.ensures in
    let tail = tail_of 70 _ c.args.text.now same in
    let equal : c.in_ok-reason.reason ≡ row = same_number c.in_ok-reason.reason row _ read.0 (reason_small row fits) read.1 (sym tail) in
    ⊎_elim (λ above. omega arith) (λ below. omega arith) c.else-reason-ge1.either
