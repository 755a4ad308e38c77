use Rattle.std.proofs.Common.{ap, sym, ◌∙◌}
use Rattle.cfa_base.specs.Keys.{is_key}
use Rattle.cfa_rows.specs.lemmas.Cuts.{no_cut}
use Rattle.cfa_journal.proofs.FieldLemmas.{key_none, key_some}
use Rattle.cfa_journal.proofs.LineLemmas.{fail_text}
use Rattle.cfa_journal.proofs.RecordLemmas.{fail_only, fail_cut, reason_cut}
use Rattle.cfa_journal.proofs.reading.read_fail.Goals as goal

pub returns-in_default : goal.returns-in_default
returns-in_default c row is same =
    let p = fail_only row c.args.number c.args.rest.now is c.requires same in
    no_cut 32 _ _ _ c.in_default.ensures.none (sym p.whole)

pub returns-in_default-cut : goal.returns-in_default-cut
returns-in_default-cut c row is same =
    let p = fail_only row c.args.number c.args.rest.now is c.requires same in
    no_cut 32 _ _ _ c.in_default-cut.ensures.none (sym (fail_cut p _ _ c.in-Some.ensures.some).1)

pub returns-in_default-read_reason : goal.returns-in_default-read_reason
returns-in_default-read_reason c row is same =
    let p = fail_only row c.args.number c.args.rest.now is c.requires same in
    c.in_default-read_reason.ensures p.reason p.is_reason (reason_cut p _ _ _ _ c.in-Some.ensures.some c.in-Some-cut.ensures.some).1

pub returns-in_default-read : goal.returns-in_default-read
returns-in_default-read c row is same =
    let p = fail_only row c.args.number c.args.rest.now is c.requires same in
    key_none c.in-Some-cut.key.now c.read.result c.read.ensures c.in_default-read.is (ap is_key (sym (reason_cut p _ _ _ _ c.in-Some.ensures.some c.in-Some-cut.ensures.some).0) ∙ p.has_key)

pub returns-in-Some-2 : goal.returns-in-Some-2
returns-in-Some-2 c =
    let id = rw c.in-Some-2.is at c.in_ok-id.ensures in
    let key = key_some _ _ _ c.read.ensures c.in-Some-read.is in
    let reason = c.in-Some-read_reason.ensures in
    ((c.requires, (id.0, (key.0, reason.0))), fail_text c.args.number _ _ _ c.args.rest.now _ _ _ _ id.1 key.1 reason.1 c.in-Some.ensures.some c.in-Some-cut.ensures.some)

pub returns-in-None : goal.returns-in-None
returns-in-None c row is same =
    let p = fail_only row c.args.number c.args.rest.now is c.requires same in
    let none = rw c.in-None.is at c.in_ok-id.ensures in
    none p.id p.is_id (fail_cut p _ _ c.in-Some.ensures.some).0
