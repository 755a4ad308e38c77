use Rattle.std.proofs.Common.{sym, ap, ◌∙◌, arith}
use Rattle.cfa_base.specs.Patterns.{PatternText, matches_in}
use Rattle.cfa_edits.proofs.DeckSteps.{turn, end, removed_length, delete_keeps, delete_takes}
use Rattle.std.proofs.lemmas.List.{append-nil}
use Rattle.cfa_edits.proofs.lining.take_out.Goals as goal

pub loop-line-preserved-then-matches : goal.loop-line-preserved-then-matches
loop-line-preserved-then-matches c =
    let t = turn c.loop-line.deck.lines c.loop-line.deck.place c.in-Some.line.now c.in-Some.ensures.line in
    rw c.remove.ensures (
      c.matches.ensures.same ∙ c.loop-line.invariant.0,
      removed_length c.loop-line.deck.lines c.loop-line.deck.place c.in-Some.line.now t,
      delete_takes c.args.matcher.now c.loop-line.deck.lines _ c.loop-line.deck.place c.in-Some.line.now t (ap (λ (m : PatternText). matches_in m c.in-Some.line.now) (sym c.loop-line.invariant.0) ∙ sym c.if-matches.ensures.found) c.loop-line.invariant.2,
    )

pub step-requires : goal.step-requires
step-requires c =
    let t = turn c.loop-line.deck.lines c.loop-line.deck.place c.in-Some.line.now c.in-Some.ensures.line in
    t.within

pub loop-line-smaller : goal.loop-line-smaller
loop-line-smaller c =
    let t = turn c.loop-line.deck.lines c.loop-line.deck.place c.in-Some.line.now c.in-Some.ensures.line in
    rw c.step.ensures (omega (arith, t.within))

pub loop-line-preserved : goal.loop-line-preserved
loop-line-preserved c =
    let t = turn c.loop-line.deck.lines c.loop-line.deck.place c.in-Some.line.now c.in-Some.ensures.line in
    rw c.step.ensures (
      c.matches.ensures.same ∙ c.loop-line.invariant.0,
      omega (arith, t.within),
      delete_keeps c.args.matcher.now c.loop-line.deck.lines _ c.loop-line.deck.place c.in-Some.line.now t (ap (λ (m : PatternText). matches_in m c.in-Some.line.now) (sym c.loop-line.invariant.0) ∙ sym c.if-matches.ensures.found) c.loop-line.invariant.2,
    )

pub returns : goal.returns
returns c =
    let e = end c.loop-line.deck.lines c.loop-line.deck.place c.in_default.ensures.line in
    sym e.before ∙ sym (append-nil _) ∙ (rw e.rest at c.loop-line.invariant.2)
