use Rattle.std.proofs.Common.{◌≡◌, true, ◌||◌, take, Some, sym, ap, ◌∙◌}
use Rattle.std.specs.Prelude.{slice_get}
use Rattle.std.proofs.lemmas.Option.{slice_get-get_or}
use Rattle.cfa_base.specs.lemmas.Truths.{or_false}
use Rattle.cfa_edits.specs.Edits.{is_among}
use Rattle.cfa_edits.specs.Steps.{has_line}
use Rattle.cfa_edits.proofs.DeckSteps.{turn}
use Rattle.cfa_edits.proofs.InsertSteps.{has_updated, put_in_more}
use Rattle.cfa_edits.proofs.inserting.add_lines.Goals as goal

pub loop-line-init : goal.loop-line-init
loop-line-init c = λ other. sym (or_false (has_line c.args.lines.now other))

pub loop-line-preserved : goal.loop-line-preserved
loop-line-preserved c =
    let block = c.as_slice-line-items.result.now in
    let name = c.as_str.result.now in
    let i = c.loop-line.line-index in
    let here : Some name ≡ slice_get block i =
    ap Some (c.as_str.ensures ∙ c.line-item.is) ∙ sym (slice_get-get_or block i c.line-item.result c.loop-line-test.true) in
    let t = turn block i name here in
    let updated = has_updated name c.loop-line.lines c.insert.new.self true c.in_ok-_is_new.ensures.updates in
    λ other. put_in_more (has_line c.args.lines.now) (has_line c.loop-line.lines) (has_line c.insert.new.self) (take i block) name c.loop-line.invariant updated other
    ∙ ap (λ lines. has_line c.args.lines.now other || is_among lines other) (sym t.before)
