use Rattle.std.proofs.Common.{◌≡◌, ℕ, List, false, sym, ap, ◌∙◌, arith}
use Rattle.cfa_base.specs.Patterns.{PatternText, matches_in, replaced}
use Rattle.cfa_edits.proofs.DeckSteps.{turn, end, exchanged_length, exchanged_same_length, map_steps, map_keeps}
use Rattle.cfa_edits.proofs.PatternSteps.{unmatched_stays}
use Rattle.std.proofs.lemmas.List.{append-nil}
use Rattle.cfa_edits.proofs.lining.write_over.Goals as goal

pub loop-line-preserved-then-not-matches : goal.loop-line-preserved-then-not-matches
loop-line-preserved-then-not-matches c =
    let t = turn c.loop-line.deck.lines c.loop-line.deck.place c.in-Some.line.now c.in-Some.ensures.line in
    let f : List ℕ → List ℕ = λ line. replaced c.args.matcher.now line c.args.value.now c.args.all in
    let miss : matches_in c.args.matcher.now c.in-Some.line.now ≡ false = ap (λ (m : PatternText). matches_in m c.in-Some.line.now) (sym c.loop-line.invariant.0) ∙ sym c.if-not-matches.ensures.found in
    let kept = unmatched_stays c.args.matcher.now c.in-Some.line.now c.args.value.now c.args.all miss in
    rw c.step.ensures
    (c.matches.ensures.same ∙ c.loop-line.invariant.0, omega (arith, t.within), map_keeps f c.loop-line.deck.lines _ c.loop-line.deck.place c.in-Some.line.now t kept c.loop-line.invariant.2)

pub loop-line-smaller : goal.loop-line-smaller
loop-line-smaller c =
    let t = turn c.loop-line.deck.lines c.loop-line.deck.place c.in-Some.line.now c.in-Some.ensures.line in
    let same = exchanged_same_length c.loop-line.deck.lines c.loop-line.deck.place c.in-Some.line.now c.in_ok-changed.changed in
    rw (c.put.ensures, same) (omega (arith, t.within))

pub loop-line-preserved : goal.loop-line-preserved
loop-line-preserved c =
    let t = turn c.loop-line.deck.lines c.loop-line.deck.place c.in-Some.line.now c.in-Some.ensures.line in
    let f : List ℕ → List ℕ = λ line. replaced c.args.matcher.now line c.args.value.now c.args.all in
    let same = c.matches.ensures.same ∙ c.loop-line.invariant.0 in
    let new : c.in_ok-changed.changed ≡ f c.in-Some.line.now = c.in_ok-changed.ensures.value ∙ ap (λ (m : PatternText). replaced m c.in-Some.line.now c.args.value.now c.args.all) same in
    rw (c.put.ensures, new)
    (c.replace.ensures.same ∙ same, exchanged_length c.loop-line.deck.lines c.loop-line.deck.place c.in-Some.line.now (f c.in-Some.line.now) t, map_steps f c.loop-line.deck.lines _ c.loop-line.deck.place c.in-Some.line.now t c.loop-line.invariant.2)

pub returns-clause-ok : goal.returns-clause-ok
returns-clause-ok c =
    let e = end c.loop-line.deck.lines c.loop-line.deck.place c.in_default.ensures.line in
    sym e.before ∙ sym (append-nil _) ∙ (rw e.rest at c.loop-line.invariant.2)
