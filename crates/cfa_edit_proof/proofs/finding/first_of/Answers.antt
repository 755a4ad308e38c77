use Rattle.std.proofs.Common.{sym, refl, ◌∙◌}
use Rattle.std.proofs.lemmas.Option.{slice_get_read}
use Rattle.cfa_edit_proof.proofs.FirstClash.{none_first, two_first}
use Rattle.cfa_edit_proof.proofs.finding.first_of.Goals as goal

pub returns-in_default : goal.returns-in_default
returns-in_default c =
    let here = slice_get_read c.args.edits.now _ c.args.place c.index-edits-place.result refl c.requires.within c.index-edits-place.is in
    none_first c.args.edits.now c.args.place c.index-edits-place.result here (sym c.in_ok-clashes_alone.ensures ∙ c.if-branch.false)
    (rw c.in_default.is at c.in_ok-second.ensures)

pub returns : goal.returns
returns c =
    let here = slice_get_read c.args.edits.now _ c.args.place c.index-edits-place.result refl c.requires.within c.index-edits-place.is in
    let found = rw c.in-Some.is at c.in_ok-second.ensures in
    let there = slice_get_read c.args.edits.now _ c.in-Some.second c.index-edits-second.result refl found.1 c.index-edits-second.is in
    two_first c.args.edits.now c.args.place c.in-Some.second c.index-edits-place.result c.index-edits-second.result _ here (sym c.in_ok-clashes_alone.ensures ∙ c.if-branch.false)
    there found refl refl c.rule_between.ensures
