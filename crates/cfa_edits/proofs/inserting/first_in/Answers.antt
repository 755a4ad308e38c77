use Rattle.std.proofs.Common.{◌≡◌, ◌+◌, true, false, sym, ap, ◌∙◌, arith}
use Rattle.cfa_base.specs.Patterns.{PatternText, matches_in}
use Rattle.cfa_edits.proofs.DeckSteps.{Turn, turn, End, end, first_more, first_here}
use Rattle.cfa_edits.proofs.inserting.first_in.Goals as goal

pub returns-then-matches-clause-place : goal.returns-then-matches-clause-place
returns-then-matches-clause-place c =
    let t : Turn c.loop-line.deck.lines c.loop-line.place c.in-Some.line.now = turn c.loop-line.deck.lines c.loop-line.place c.in-Some.line.now (rw c.loop-line.invariant.0 c.in-Some.ensures.line) in
    let hit : matches_in c.args.matcher.now c.in-Some.line.now ≡ true = ap (λ (m : PatternText). matches_in m c.in-Some.line.now) (sym c.loop-line.invariant.2) ∙ sym c.if-matches.ensures.found in
    first_here (λ line. matches_in c.args.matcher.now line) c.loop-line.deck.lines c.loop-line.place c.in-Some.line.now _ t hit c.loop-line.invariant.3

pub returns-then-matches-clause-within : goal.returns-then-matches-clause-within
returns-then-matches-clause-within c =
    let t : Turn c.loop-line.deck.lines c.loop-line.place c.in-Some.line.now = turn c.loop-line.deck.lines c.loop-line.place c.in-Some.line.now (rw c.loop-line.invariant.0 c.in-Some.ensures.line) in
    rw (← c.loop-line.invariant.1) t.within

pub returns-then-matches-clause-small : goal.returns-then-matches-clause-small
returns-then-matches-clause-small c =
    let t : Turn c.loop-line.deck.lines c.loop-line.place c.in-Some.line.now = turn c.loop-line.deck.lines c.loop-line.place c.in-Some.line.now (rw c.loop-line.invariant.0 c.in-Some.ensures.line) in
    omega (arith, t.within, c.in-Some.ensures.small)

pub overflow_add-place : goal.overflow_add-place
overflow_add-place c =
    let t : Turn c.loop-line.deck.lines c.loop-line.place c.in-Some.line.now = turn c.loop-line.deck.lines c.loop-line.place c.in-Some.line.now (rw c.loop-line.invariant.0 c.in-Some.ensures.line) in
    omega (arith, t.within, c.in-Some.ensures.small)

pub step-requires : goal.step-requires
step-requires c =
    let t = turn c.loop-line.deck.lines c.loop-line.deck.place c.in-Some.line.now c.in-Some.ensures.line in
    t.within

pub loop-line-smaller : goal.loop-line-smaller
loop-line-smaller c =
    let t = turn c.loop-line.deck.lines c.loop-line.deck.place c.in-Some.line.now c.in-Some.ensures.line in
    rw c.step.ensures (omega (arith, t.within))

pub loop-line-preserved : goal.loop-line-preserved
loop-line-preserved c =
    let t : Turn c.loop-line.deck.lines c.loop-line.place c.in-Some.line.now = turn c.loop-line.deck.lines c.loop-line.place c.in-Some.line.now (rw c.loop-line.invariant.0 c.in-Some.ensures.line) in
    let miss : matches_in c.args.matcher.now c.in-Some.line.now ≡ false = ap (λ (m : PatternText). matches_in m c.in-Some.line.now) (sym c.loop-line.invariant.2) ∙ sym c.if-matches.ensures.found in
    rw c.step.ensures
    (ap (λ n. n + 1) c.loop-line.invariant.0, c.loop-line.invariant.1, c.matches.ensures.same ∙ c.loop-line.invariant.2, first_more (λ line. matches_in c.args.matcher.now line) c.loop-line.deck.lines c.loop-line.place c.in-Some.line.now _ t miss c.loop-line.invariant.3)

pub returns-clause-place : goal.returns-clause-place
returns-clause-place c =
    let e : End c.loop-line.deck.lines c.loop-line.place = end c.loop-line.deck.lines c.loop-line.place (rw c.loop-line.invariant.0 c.in_default.ensures.line) in
    rw e.rest at c.loop-line.invariant.3
