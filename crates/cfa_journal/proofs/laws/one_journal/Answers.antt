use Rattle.std.proofs.Common.{length, ◌+◌, ap, sym, ◌∙◌}
use Rattle.cfa_journal.specs.declared.positions.Position.TheVariants.{Start}
use Rattle.cfa_journal.proofs.JournalLemmas.{one_reading, never_bad, one_bad}
use Rattle.cfa_journal.proofs.laws.one_journal.Goals as goal

pub returns-clause-one : goal.returns-clause-one
returns-clause-one c bytes records other torn torn' is is' =
    let same = one_reading Start records other is.tail is'.tail is.in_place is'.in_place is.no_newline is'.no_newline (is.whole ∙ sym is'.whole) in
    (same.0, sym is.counted ∙ ap length same.1 ∙ is'.counted)

pub returns-clause-never_both : goal.returns-clause-never_both
returns-clause-never_both c bytes records torn line is bad =
    never_bad Start records bad.before is.tail bad.line bad.rest is.in_place is.no_newline bad.in_place bad.a_line bad.no_record (is.whole ∙ sym bad.whole)

pub returns-clause-one_bad : goal.returns-clause-one_bad
returns-clause-one_bad c bytes line other a b =
    a.counted ∙ ap (λ n. n + 1) (one_bad Start a.before b.before a.line a.rest b.line b.rest a.in_place b.in_place a.a_line b.a_line a.no_record b.no_record (a.whole ∙ sym b.whole)) ∙ sym b.counted
