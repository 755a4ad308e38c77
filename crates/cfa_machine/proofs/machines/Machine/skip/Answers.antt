use Rattle.cfa_machine.proofs.AnswerLemmas.{ok_then_both}
use Rattle.cfa_machine.proofs.HeldLemmas.{skip_came, skip_holds}
use Rattle.cfa_machine.proofs.machines.Machine.skip.Goals as goal

pub returns-in-Agent-clause-moved : goal.returns-in-Agent-clause-moved
returns-in-Agent-clause-moved c =
    ok_then_both c.skip_visit.result c.skip_visit.ensures.frame c.skip_visit.ensures.stands
    (λ frame stands. skip_came c.args.self.now c.in-Agent.frame c.in-Agent.is c.requires.holds c.skip_visit.new.frame c.skip_visit.new.state frame stands
    c.frames_stay_nested.ensures.longer c.frames_stay_nested.ensures.skipped)

pub returns-in-Agent-clause-holds : goal.returns-in-Agent-clause-holds
returns-in-Agent-clause-holds c =
    ok_then_both c.skip_visit.result c.skip_visit.ensures.frame c.skip_visit.ensures.later
    (λ frame later. skip_holds c.args.self.now c.in-Agent.frame c.in-Agent.is c.requires.holds c.skip_visit.new.frame c.skip_visit.new.state frame later)
