use Rattle.std.proofs.Common.{arith}
use Rattle.cfa_edit_proof.proofs.FirstClash.{is_least, goes_on, none_left}
use Rattle.cfa_edit_proof.proofs.finding.quiet.Goals as goal

pub returns-in-Some-clause-least : goal.returns-in-Some-clause-least
returns-in-Some-clause-least c =
    let found = rw (c.in-Some.is, c.edits-edits.ensures.edits) at c.in_ok-clash.ensures in
    is_least c.args.script.now c.loop-place.place c.in-Some.clash c.loop-place.invariant found

pub returns-in-Some-clause-settles : goal.returns-in-Some-clause-settles
returns-in-Some-clause-settles c = λ none. absurd cc

pub returns-in-Some-clause-decided : goal.returns-in-Some-clause-decided
returns-in-Some-clause-decided c = λ none. absurd cc

pub loop-place-preserved : goal.loop-place-preserved
loop-place-preserved c =
    let found = rw (c.in_default.is, c.edits-edits.ensures.edits) at c.in_ok-clash.ensures in
    goes_on c.args.script.now c.loop-place.place c.loop-place.invariant found

pub returns-clause-least : goal.returns-clause-least
returns-clause-least c =
    let past = c.loop-place-test.false in
    let long = rw c.edits-edits.ensures.edits at past in
    none_left c.args.script.now c.loop-place.place (omega (arith, long)) c.loop-place.invariant

pub returns-clause-settles : goal.returns-clause-settles
returns-clause-settles c = λ none.
    let past = c.loop-place-test.false in
    let long = rw c.edits-edits.ensures.edits at past in
    let texts = rw c.edits-edits.ensures.edits at c.have_texts.ensures in
    c.quiet_settles.ensures c.args.script.now c.edits-edits.ensures.facts texts
    (none_left c.args.script.now c.loop-place.place (omega (arith, long)) c.loop-place.invariant)

pub returns-clause-decided : goal.returns-clause-decided
returns-clause-decided c = λ none.
    let past = c.loop-place-test.false in
    let long = rw c.edits-edits.ensures.edits at past in
    let texts = rw c.edits-edits.ensures.edits at c.have_texts.ensures in
    c.quiet_never_fails.ensures c.args.script.now c.edits-edits.ensures.facts texts
    (none_left c.args.script.now c.loop-place.place (omega (arith, long)) c.loop-place.invariant)
