use Rattle.std.proofs.Common.{◌≡◌, true, false, Some, None, Ok, refl, sym, ap, ◌∙◌, arith}
use Rattle.cfa_base.specs.Patterns.{PatternText, matches_in}
use Rattle.cfa_edits.specs.Edits.{or_field_count, field_edited}
use Rattle.std.proofs.lemmas.List.{append-nil}
use Rattle.cfa_edits.proofs.DeckSteps.{turn, end, exchanged_length, exchanged_same_length, fields_keep, fields_step, fields_refuse}
use Rattle.cfa_edits.proofs.lining.give_fields.Goals as goal

pub loop-line-preserved-then-not-matches : goal.loop-line-preserved-then-not-matches
loop-line-preserved-then-not-matches c =
    let t = turn c.loop-line.deck.lines c.loop-line.deck.place c.in-Some.line.now c.in-Some.ensures.line in
    let miss : matches_in c.args.matcher.now c.in-Some.line.now ≡ false = ap (λ (m : PatternText). matches_in m c.in-Some.line.now) (sym c.loop-line.invariant.0) ∙ sym c.if-not-matches.ensures.found in
    let kept : field_edited c.args.matcher.now c.args.separator c.args.number c.args.value.now c.in-Some.line.now ≡ Some c.in-Some.line.now = rw miss refl in
    rw c.step.ensures
    (c.matches.ensures.same ∙ c.loop-line.invariant.0, omega (arith, t.within), fields_keep (λ line. field_edited c.args.matcher.now c.args.separator c.args.number c.args.value.now line) c.loop-line.deck.lines _ c.loop-line.deck.place c.in-Some.line.now t kept c.loop-line.invariant.2)

pub returns-in_default-2-clause-refused : goal.returns-in_default-2-clause-refused
returns-in_default-2-clause-refused c =
    let t = turn c.loop-line.deck.lines c.loop-line.deck.place c.in-Some.line.now c.in-Some.ensures.line in
    let hit : matches_in c.args.matcher.now c.in-Some.line.now ≡ true = ap (λ (m : PatternText). matches_in m c.in-Some.line.now) (sym c.loop-line.invariant.0) ∙ sym c.if-not-matches.ensures.found in
    let none : field_edited c.args.matcher.now c.args.separator c.args.number c.args.value.now c.in-Some.line.now ≡ None =
    rw hit (sym c.in_ok-changed.ensures.ok ∙ c.in_default-2.is) in
    ap or_field_count (fields_refuse (λ line. field_edited c.args.matcher.now c.args.separator c.args.number c.args.value.now line) c.loop-line.deck.lines _ c.loop-line.deck.place c.in-Some.line.now t none c.loop-line.invariant.2)

pub loop-line-smaller : goal.loop-line-smaller
loop-line-smaller c =
    let t = turn c.loop-line.deck.lines c.loop-line.deck.place c.in-Some.line.now c.in-Some.ensures.line in
    let same = exchanged_same_length c.loop-line.deck.lines c.loop-line.deck.place c.in-Some.line.now c.in-Some-2.changed in
    rw (c.put.ensures, same) (omega (arith, t.within))

pub loop-line-preserved : goal.loop-line-preserved
loop-line-preserved c =
    let t = turn c.loop-line.deck.lines c.loop-line.deck.place c.in-Some.line.now c.in-Some.ensures.line in
    let hit : matches_in c.args.matcher.now c.in-Some.line.now ≡ true = ap (λ (m : PatternText). matches_in m c.in-Some.line.now) (sym c.loop-line.invariant.0) ∙ sym c.if-not-matches.ensures.found in
    let changed : field_edited c.args.matcher.now c.args.separator c.args.number c.args.value.now c.in-Some.line.now ≡ Some c.in-Some-2.changed =
    rw hit (sym c.in_ok-changed.ensures.ok ∙ c.in-Some-2.is) in
    rw c.put.ensures
    (c.matches.ensures.same ∙ c.loop-line.invariant.0, exchanged_length c.loop-line.deck.lines c.loop-line.deck.place c.in-Some.line.now c.in-Some-2.changed t, fields_step (λ line. field_edited c.args.matcher.now c.args.separator c.args.number c.args.value.now line) c.loop-line.deck.lines _ c.loop-line.deck.place c.in-Some.line.now c.in-Some-2.changed t changed c.loop-line.invariant.2)

pub returns-clause-ok : goal.returns-clause-ok
returns-clause-ok c =
    let e = end c.loop-line.deck.lines c.loop-line.deck.place c.in_default.ensures.line in
    ap or_field_count (sym (rw e.rest at c.loop-line.invariant.2)) ∙ ap Ok (append-nil _ ∙ e.before)
