use Rattle.std.proofs.Common.{ap, sym, ◌∙◌}
use Rattle.cfa_base.specs.Keys.{is_key}
use Rattle.cfa_rows.specs.lemmas.Cuts.{no_cut}
use Rattle.cfa_journal.proofs.FieldLemmas.{key_none, key_some}
use Rattle.cfa_journal.proofs.LineLemmas.{open_text}
use Rattle.cfa_journal.proofs.RecordLemmas.{open_only, open_cut}
use Rattle.cfa_journal.proofs.reading.read_open.Goals as goal

pub returns-in_default : goal.returns-in_default
returns-in_default c row is same =
    let p = open_only row c.args.number c.args.rest.now is c.requires same in
    no_cut 32 _ _ _ c.in_default.ensures.none (sym p.whole)

pub returns-in_default-2 : goal.returns-in_default-2
returns-in_default-2 c row is same =
    let p = open_only row c.args.number c.args.rest.now is c.requires same in
    let none = rw c.in_default-2.is at c.in_ok-id.ensures in
    none p.id p.is_id (open_cut p _ _ c.in-Some.ensures.some).0

pub returns-in-Some-read : goal.returns-in-Some-read
returns-in-Some-read c =
    let id = rw c.in-Some-2.is at c.in_ok-id.ensures in
    let key = key_some _ _ _ c.read.ensures c.in-Some-read.is in
    ((c.requires, (id.0, key.0)), open_text c.args.number _ _ c.args.rest.now _ _ id.1 key.1 c.in-Some.ensures.some)

pub returns-in-None : goal.returns-in-None
returns-in-None c row is same =
    let p = open_only row c.args.number c.args.rest.now is c.requires same in
    key_none c.in-Some.key.now c.read.result c.read.ensures c.in-None.is (ap is_key (sym (open_cut p _ _ c.in-Some.ensures.some).1) ∙ p.has_key)
