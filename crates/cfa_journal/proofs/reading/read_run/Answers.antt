use Rattle.std.proofs.Common.{sym, ◌∙◌}
use Rattle.std.proofs.lemmas.Bool.{both_ways}
use Rattle.std.proofs.lemmas.Slice.Eq.{bytes_eq-Decides}
use Rattle.cfa_journal.proofs.LineLemmas.{run_text, run2_text}
use Rattle.cfa_journal.proofs.RecordLemmas.{run_only, run_one_field, run_two_fields}
use Rattle.cfa_journal.proofs.reading.read_run.Goals as goal

pub returns-in-Some-read_moment : goal.returns-in-Some-read_moment
returns-in-Some-read_moment c = (c.in-Some-read_moment.ensures.0, run_text _ _ c.in-Some-read_moment.ensures.1)

pub returns-in-None : goal.returns-in-None
returns-in-None c row is same = run_one_field (run_only row c.args.fields.now is same) c.in_default.ensures.none c.in-None.ensures

pub returns-then-not-is_text : goal.returns-then-not-is_text
returns-then-not-is_text c row is same =
    run_two_fields (run_only row c.args.fields.now is same) _ _ c.in-Some.ensures.some
    (λ two n is' e. both_ways _ (sym c.is_text.ensures ∙ c.if-not-is_text.true) ((bytes_eq-Decides _ _).1 (sym two)))

pub returns-in-Some-read_moment-2 : goal.returns-in-Some-read_moment-2
returns-in-Some-read_moment-2 c =
    (c.in-Some-read_moment-2.ensures.0, run2_text _ _ _ _ c.in-Some-read_moment-2.ensures.1 (sym c.is_text.ensures ∙ c.if-not-is_text.false) c.in-Some.ensures.some)

pub returns-in-None-read_moment : goal.returns-in-None-read_moment
returns-in-None-read_moment c row is same =
    run_two_fields (run_only row c.args.fields.now is same) _ _ c.in-Some.ensures.some (λ two. c.in-None-read_moment.ensures)
