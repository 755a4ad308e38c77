use Rattle.std.proofs.Common.{sym}
use Rattle.cfa_rows.specs.lemmas.Cuts.{no_cut}
use Rattle.cfa_journal.proofs.LineLemmas.{file_text}
use Rattle.cfa_journal.proofs.RecordLemmas.{file_only, file_cut, digests_cut}
use Rattle.cfa_journal.proofs.reading.read_file.Goals as goal

pub returns-in_default : goal.returns-in_default
returns-in_default c row is same =
    let p = file_only row c.args.number c.args.rest.now is c.requires same in
    no_cut 32 _ _ _ c.in_default.ensures.none (sym p.whole)

pub returns-in_default-cut : goal.returns-in_default-cut
returns-in_default-cut c row is same =
    let p = file_only row c.args.number c.args.rest.now is c.requires same in
    no_cut 32 _ _ _ c.in_default-cut.ensures.none (sym (file_cut p _ _ c.in-Some.ensures.some).1)

pub returns-in_default-2 : goal.returns-in_default-2
returns-in_default-2 c row is same =
    let p = file_only row c.args.number c.args.rest.now is c.requires same in
    let none = rw c.in_default-2.is at c.in_ok-before.ensures in
    none p.before p.is_before (digests_cut p _ _ _ _ c.in-Some.ensures.some c.in-Some-cut.ensures.some).0

pub returns-in_default-3 : goal.returns-in_default-3
returns-in_default-3 c row is same =
    let p = file_only row c.args.number c.args.rest.now is c.requires same in
    let none = rw c.in_default-3.is at c.in_ok-after.ensures in
    none p.after p.is_after (digests_cut p _ _ _ _ c.in-Some.ensures.some c.in-Some-cut.ensures.some).1

pub returns-in-Some-4 : goal.returns-in-Some-4
returns-in-Some-4 c =
    let path = rw c.in-Some-4.is at c.in_ok-path.ensures in
    let before = rw c.in-Some-2.is at c.in_ok-before.ensures in
    let after = rw c.in-Some-3.is at c.in_ok-after.ensures in
    ((c.requires, (path.0, (before.0, after.0))), file_text c.args.number _ _ _ c.args.rest.now _ _ _ _ path.1 before.1 after.1 c.in-Some.ensures.some c.in-Some-cut.ensures.some)

pub returns-in-None : goal.returns-in-None
returns-in-None c row is same =
    let p = file_only row c.args.number c.args.rest.now is c.requires same in
    let none = rw c.in-None.is at c.in_ok-path.ensures in
    none p.path p.is_path (file_cut p _ _ c.in-Some.ensures.some).0
