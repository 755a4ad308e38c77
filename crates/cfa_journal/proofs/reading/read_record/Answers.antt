use Rattle.std.proofs.Common.{sym, ◌∙◌}
use Rattle.cfa_rows.specs.lemmas.Cuts.{no_cut}
use Rattle.cfa_journal.proofs.RecordLemmas.{has_space, numbered, number_cut}
use Rattle.cfa_journal.proofs.reading.read_record.Goals as goal

pub returns-in_default : goal.returns-in_default
returns-in_default c row is same = has_space row _ same c.in_default.ensures.none

pub returns-in_default-cut : goal.returns-in_default-cut
returns-in_default-cut c row is same =
    let p = numbered row _ _ _ is same c.in-Some.ensures.some (sym c.is_text.ensures ∙ c.if-is_text.false) in
    no_cut 32 _ _ _ c.in_default-cut.ensures.none (sym p.whole)

pub returns-in_default-read_count : goal.returns-in_default-read_count
returns-in_default-read_count c row is same =
    let p = numbered row _ _ _ is same c.in-Some.ensures.some (sym c.is_text.ensures ∙ c.if-is_text.false) in
    c.in_default-read_count.ensures p.n p.is (number_cut p _ _ c.in-Some-cut.ensures.some)
