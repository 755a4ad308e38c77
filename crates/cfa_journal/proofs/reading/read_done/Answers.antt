use Rattle.std.proofs.Common.{sym, ◌∙◌}
use Rattle.cfa_journal.proofs.LineLemmas.{repaired_text, failed_text}
use Rattle.cfa_journal.proofs.RecordLemmas.{done_only, done_has_space, done_repaired, done_failed, done_neither}
use Rattle.cfa_journal.proofs.reading.read_done.Goals as goal

pub returns-in_default : goal.returns-in_default
returns-in_default c row is same = done_has_space (done_only row c.args.number c.args.rest.now is c.requires same) c.in_default.ensures.none

pub returns-in-Some-read_count : goal.returns-in-Some-read_count
returns-in-Some-read_count c =
    let read = c.in-Some-read_count.ensures in
    ((c.requires, read.0), repaired_text c.args.number _ c.args.rest.now _ _ (sym c.is_text.ensures ∙ c.if-is_text.true) read.1 c.in-Some.ensures.some)

pub returns-in-None : goal.returns-in-None
returns-in-None c row is same = done_repaired (done_only row c.args.number c.args.rest.now is c.requires same) _ _ c.in-Some.ensures.some (sym c.is_text.ensures ∙ c.if-is_text.true) c.in-None.ensures

pub returns-in-Some-read_reason : goal.returns-in-Some-read_reason
returns-in-Some-read_reason c =
    let read = c.in-Some-read_reason.ensures in
    ((c.requires, read.0), failed_text c.args.number _ c.args.rest.now _ _ (sym c.is_text-2.ensures ∙ c.if-is_text-2.true) read.1 c.in-Some.ensures.some)

pub returns-in-None-read_reason : goal.returns-in-None-read_reason
returns-in-None-read_reason c row is same = done_failed (done_only row c.args.number c.args.rest.now is c.requires same) _ _ c.in-Some.ensures.some (sym c.is_text-2.ensures ∙ c.if-is_text-2.true) c.in-None-read_reason.ensures

pub returns : goal.returns
returns c row is same = done_neither (done_only row c.args.number c.args.rest.now is c.requires same) _ _ c.in-Some.ensures.some (sym c.is_text.ensures ∙ c.if-is_text.false) (sym c.is_text-2.ensures ∙ c.if-is_text-2.false)
