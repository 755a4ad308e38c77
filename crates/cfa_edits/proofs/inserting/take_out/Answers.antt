use Rattle.std.proofs.Common.{false, not, ◌&&◌, take, sym, ap, ◌∙◌}
use Rattle.cfa_edits.specs.Edits.{is_among}
use Rattle.cfa_edits.specs.Steps.{has_line}
use Rattle.cfa_edits.proofs.DeckSteps.{turn, end}
use Rattle.cfa_edits.proofs.InsertSteps.{has_updated, take_out_more}
use Rattle.cfa_edits.proofs.inserting.take_out.Goals as goal

pub loop-line-preserved : goal.loop-line-preserved
loop-line-preserved c =
    let lines = c.loop-line.deck.lines in
    let place = c.loop-line.deck.place in
    let line = c.in-Some.line.now in
    let t = turn lines place line c.in-Some.ensures.line in
    let updated = has_updated line c.loop-line.wanted c.remove-was_wanted.new.self false c.remove-was_wanted.ensures.updates in
    rw c.step.ensures (
      c.loop-line.invariant.0,
      λ other. take_out_more (has_line c.args.wanted.now) (has_line c.loop-line.wanted) (has_line c.remove-was_wanted.new.self) (take place lines) line
          c.loop-line.invariant.1 updated other
          ∙ ap (λ ls. has_line c.args.wanted.now other && not (is_among ls other)) (sym t.before),
    )

pub returns-clause-set : goal.returns-clause-set
returns-clause-set c =
    let e = end c.loop-line.deck.lines c.loop-line.deck.place c.in_default.ensures.line in
    λ other. c.loop-line.invariant.1 other
    ∙ ap (λ ls. has_line c.args.wanted.now other && not (is_among ls other)) (e.before ∙ c.loop-line.invariant.0)
