use Rattle.std.proofs.Common.{rules, ◌≡◌, true, false, get_or}
use Rattle.cfa_calls.specs.Numbering.{may_be_first}
use Rattle.cfa_calls.proofs.FirstLemmas.{loop_later, loop_apart, loop_takes, loop_end, no_call}
use Rattle.cfa_calls.proofs.cycles.first_closing.Goals as goal

pub loop-i-preserved-then-not-may_be_first : goal.loop-i-preserved-then-not-may_be_first
loop-i-preserved-then-not-may_be_first c =
    let later : may_be_first (get_or c.args.calls.now c.loop-i.i no_call).place c.loop-i.first ≡ false = search rules in
    loop_later c.args.calls.now c.loop-i.i no_call c.loop-i.first c.loop-i-test.true c.loop-i.invariant later

pub loop-i-preserved-then-not-branch : goal.loop-i-preserved-then-not-branch
loop-i-preserved-then-not-branch c =
    let no : c.in_ok-closes_cycle.field-0 ≡ false = search rules in
    loop_apart c.args.calls.now c.loop-i.i no_call c.loop-i.first c.in_ok-closes_cycle.field-0 _ c.loop-i-test.true c.loop-i.invariant no c.in_ok-closes_cycle.ensures
    (c.requires.traced.exact c.loop-i.i no_call (record { from = 0; to = 0 }) c.loop-i-test.true)

pub loop-i-preserved : goal.loop-i-preserved
loop-i-preserved c =
    let sooner : may_be_first (get_or c.args.calls.now c.loop-i.i no_call).place c.loop-i.first ≡ true = search rules in
    let yes : c.in_ok-closes_cycle.field-0 ≡ true = search rules in
    loop_takes c.args.calls.now c.loop-i.i no_call c.loop-i.first c.in_ok-closes_cycle.field-0 _ c.loop-i-test.true c.loop-i.invariant sooner yes c.in_ok-closes_cycle.ensures
    (c.requires.traced.exact c.loop-i.i no_call (record { from = 0; to = 0 }) c.loop-i-test.true)

pub returns : goal.returns
returns c = loop_end c.args.calls.now c.loop-i.i c.loop-i.first c.loop-i-test.false c.loop-i.invariant
