use Rattle.std.proofs.Common.{◌+◌, sym, ap, ◌∙◌, arith}
use Rattle.cfa_base.specs.Patterns.{PatternText, matches_in}
use Rattle.cfa_edits.proofs.DeckSteps.{Turn, turn, End, end, last_more, last_here, found_before}
use Rattle.cfa_edits.proofs.inserting.last_in.Goals.{then-matches, else-matches}
use Rattle.cfa_edits.proofs.inserting.last_in.Goals as goal

pub loop-line-preserved : goal.loop-line-preserved
loop-line-preserved c =
    let t : Turn c.loop-line.deck.lines c.loop-line.place c.in-Some.line.now = turn c.loop-line.deck.lines c.loop-line.place c.in-Some.line.now (rw c.loop-line.invariant.0 c.in-Some.ensures.line) in
    elim c.if-matches.branch [
      | then-matches w ↦
          rw (c.step.ensures, w.found-is) (
            ap (λ n. n + 1) c.loop-line.invariant.0,
            c.loop-line.invariant.1,
            c.matches.ensures.same ∙ c.loop-line.invariant.2,
            last_here (λ line. matches_in c.args.matcher.now line) c.loop-line.deck.lines c.loop-line.place c.in-Some.line.now c.loop-line.found _ t (ap (λ (m : PatternText). matches_in m c.in-Some.line.now) (sym c.loop-line.invariant.2) ∙ sym w.if-matches.ensures.found) c.loop-line.invariant.3,
            omega arith,
          )
      | else-matches w ↦
          rw (c.step.ensures, w.found-is) (
            ap (λ n. n + 1) c.loop-line.invariant.0,
            c.loop-line.invariant.1,
            c.matches.ensures.same ∙ c.loop-line.invariant.2,
            last_more (λ line. matches_in c.args.matcher.now line) c.loop-line.deck.lines c.loop-line.place c.in-Some.line.now c.loop-line.found _ t (ap (λ (m : PatternText). matches_in m c.in-Some.line.now) (sym c.loop-line.invariant.2) ∙ sym w.if-matches.ensures.found) c.loop-line.invariant.3,
            found_before c.loop-line.found c.loop-line.place c.loop-line.invariant.4,
          )
    ]

pub returns-clause-place : goal.returns-clause-place
returns-clause-place c =
    let e : End c.loop-line.deck.lines c.loop-line.place = end c.loop-line.deck.lines c.loop-line.place (rw c.loop-line.invariant.0 c.in_default.ensures.line) in
    rw e.rest at c.loop-line.invariant.3
