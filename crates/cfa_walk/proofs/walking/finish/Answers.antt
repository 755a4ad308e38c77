use Rattle.std.proofs.Common.{sym}
use Rattle.cfa_machine.specs.Stacks.{seen_stack}
use Rattle.cfa_states.specs.Tellers.{outcomes_in}
use Rattle.cfa_walk.proofs.TurnLemmas.{by_answer, counted_still, ending_goes, ok_then, told_so}
use Rattle.cfa_walk.proofs.walking.finish.Goals as goal

pub returns-in-Ok-clause-turned : goal.returns-in-Ok-clause-turned
returns-in-Ok-clause-turned g c =
    let m = c.args.machine.now in
    let i = c.in-Ending.instance.now in
    let status = c.in-Ending.field-1 in
    let asks = sym c.in-Ending.ensures in
    by_answer g.T.Teller.teller g.T.Teller.agrees g.T.Teller.behind (c.args.teller.now, (c.args.site.now, c.args.out.now)) (c.tell.new.self, (c.tell.new.site, c.tell.new.out)) m c.answer_ending.new.machine c.answer_ending.result
    (ok_then c.answer_ending.result c.answer_ending.ensures.moved
    (told_so g.T.Teller.teller g.T.Teller.agrees g.T.Teller.behind (c.args.teller.now, (c.args.site.now, c.args.out.now)) (c.tell.new.self, (c.tell.new.site, c.tell.new.out)) (g.met.T.Teller.steady (c.tell.new.self, (c.tell.new.site, c.tell.new.out))) m c.answer_ending.new.machine i status asks c.called-called.result c.in-Ok.ending
    (λ s t h. c.moves_keep_what_is_left.ensures.ended s t (seen_stack m) h i status asks)
    (λ h. c.moves_are_quiet.ensures.ended (seen_stack m) h i status (outcomes_in c.in-Ok.ending) asks)
    (λ s h stands. c.called-called.ensures s h stands i status asks)
    c.in-Ok.ensures.told))
    c.answer_ending.ensures.memory

pub returns-in-Ok-clause-lighter : goal.returns-in-Ok-clause-lighter
returns-in-Ok-clause-lighter g c =
    ending_goes c.args.machine.now c.answer_ending.new.machine c.in-Ending.instance.now c.in-Ending.field-1 (sym c.in-Ending.ensures) (outcomes_in c.in-Ok.ending)
    c.moves_lower_the_weight.ensures.ended c.answer_ending.result c.answer_ending.ensures.moved

pub returns-in-Ok-clause-counted : goal.returns-in-Ok-clause-counted
returns-in-Ok-clause-counted g c =
    counted_still (g.T.Teller.counts (c.args.teller.now, (c.args.site.now, c.args.out.now)) (c.tell.new.self, (c.tell.new.site, c.tell.new.out)))
    c.answer_ending.result c.in-Ok.ensures.counted
