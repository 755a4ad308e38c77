use Rattle.std.proofs.Common.{◌≡◌, ap, sym, ◌∙◌}
use Rattle.std.proofs.lemmas.Bool.{both_ways}
use Rattle.cfa_journal.specs.Positions.{is_in_place}
use Rattle.cfa_journal.proofs.LineLemmas.{record_tells}
use Rattle.cfa_journal.proofs.journals.read_at.Goals as goal

pub returns-else-is_in_place : goal.returns-else-is_in_place
returns-else-is_in_place c row fits same =
    let read = rw c.in-Some.is at c.in_ok-record.ensures in
    let equal : row ≡ c.in-Some.record = record_tells row c.in-Some.record fits.0 read.0 (same ∙ sym read.1) in
    both_ways _ c.if-is_in_place.false (c.is_in_place.ensures ∙ ap (is_in_place c.args.position) (sym equal) ∙ fits.1)
