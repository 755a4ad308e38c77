use Rattle.std.proofs.Common.{ap, sym, ◌∙◌}
use Rattle.std.proofs.lemmas.Bool.{both_ways}
use Rattle.cfa_base.specs.Lexing.{is_word}
use Rattle.cfa_rows.specs.lemmas.Cuts.{no_cut}
use Rattle.cfa_journal.proofs.FieldLemmas.{id_cut, numbers_cut, word_utf8}
use Rattle.cfa_journal.proofs.fields.read_id.Goals as goal

pub returns-in_default : goal.returns-in_default
returns-in_default c id is same = no_cut 58 _ _ _ c.in_default.ensures.none (sym same)

pub returns-then-not-is_word : goal.returns-then-not-is_word
returns-then-not-is_word c id is same =
    let parts = id_cut id _ _ _ is same c.in-Some.ensures.some in
    both_ways _ c.if-not-is_word.true (c.is_word.ensures ∙ ap is_word (sym parts.0) ∙ is.0)

pub returns-in_default-from_utf8 : goal.returns-in_default-from_utf8
returns-in_default-from_utf8 c id is same = c.in_default-from_utf8.ensures.cases.0 (word_utf8 _ (sym c.is_word.ensures ∙ c.if-not-is_word.false))

pub returns-in_default-cut : goal.returns-in_default-cut
returns-in_default-cut c id is same =
    let parts = id_cut id _ _ _ is same c.in-Some.ensures.some in
    no_cut 64 _ _ _ c.in_default-cut.ensures.none (sym parts.1)

pub returns-in_default-read_count : goal.returns-in_default-read_count
returns-in_default-read_count c id is same =
    let parts = id_cut id _ _ _ is same c.in-Some.ensures.some in
    c.in_default-read_count.ensures id.number is.1.0 (numbers_cut id.number id.line _ _ _ is.1.0 parts.1 c.in-Some-cut.ensures.some).0

pub returns-in_default-read_count-2 : goal.returns-in_default-read_count-2
returns-in_default-read_count-2 c id is same =
    let parts = id_cut id _ _ _ is same c.in-Some.ensures.some in
    c.in_default-read_count-2.ensures id.line is.1.1 (numbers_cut id.number id.line _ _ _ is.1.0 parts.1 c.in-Some-cut.ensures.some).1
