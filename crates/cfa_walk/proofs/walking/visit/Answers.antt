use Rattle.std.proofs.Common.{sym}
use Rattle.cfa_walk.proofs.TurnLemmas.{by_answer, counted_still, ok_then, visit_goes, visit_meets, visit_quiet, visited}
use Rattle.cfa_machine.specs.Stacks.{seen_stack}
use Rattle.cfa_walk.proofs.walking.visit.Goals as goal

pub returns-in-Ok-clause-turned : goal.returns-in-Ok-clause-turned
returns-in-Ok-clause-turned g c =
    let m = c.args.machine.now in
    let i = c.in-Visit.instance.now in
    let status = c.in-Visit.status in
    let skipped = c.in-Ok.is_skipped in
    let asks = sym c.in-Visit.ensures in
    by_answer g.T.Teller.teller g.T.Teller.agrees g.T.Teller.behind (c.args.teller.now, (c.args.site.now, c.args.out.now)) (c.visit.new.self, (c.visit.new.site, c.visit.new.out)) m c.answer_visit.new.machine c.answer_visit.result
    (ok_then c.answer_visit.result c.answer_visit.ensures.moved
    (visited g.T.Teller.teller g.T.Teller.agrees g.T.Teller.behind (c.args.teller.now, (c.args.site.now, c.args.out.now)) (c.visit.new.self, (c.visit.new.site, c.visit.new.out)) (g.met.T.Teller.steady (c.visit.new.self, (c.visit.new.site, c.visit.new.out))) m c.answer_visit.new.machine i status asks skipped
    (visit_meets (seen_stack m) i status asks skipped c.moves_keep_what_is_left.ensures.skipped c.moves_keep_what_is_left.ensures.entered)
    (visit_quiet (seen_stack m) i status asks skipped c.moves_are_quiet.ensures.skipped c.moves_are_quiet.ensures.entered)
    c.in-Ok.ensures.visited))
    c.answer_visit.ensures.memory

pub returns-in-Ok-clause-lighter : goal.returns-in-Ok-clause-lighter
returns-in-Ok-clause-lighter g c =
    visit_goes c.args.machine.now c.answer_visit.new.machine c.in-Visit.instance.now c.in-Visit.status (sym c.in-Visit.ensures) c.in-Ok.is_skipped
    c.moves_lower_the_weight.ensures.skipped c.moves_lower_the_weight.ensures.entered c.answer_visit.result c.answer_visit.ensures.moved

pub returns-in-Ok-clause-counted : goal.returns-in-Ok-clause-counted
returns-in-Ok-clause-counted g c =
    counted_still (g.T.Teller.counts (c.args.teller.now, (c.args.site.now, c.args.out.now)) (c.visit.new.self, (c.visit.new.site, c.visit.new.out)))
    c.answer_visit.result c.in-Ok.ensures.counted
