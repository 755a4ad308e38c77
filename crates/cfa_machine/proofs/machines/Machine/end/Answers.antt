use Rattle.cfa_machine.proofs.AnswerLemmas.{ok_then_all, ok_then_both}
use Rattle.cfa_machine.proofs.HeldLemmas.{end_came, end_holds}
use Rattle.cfa_machine.proofs.machines.Machine.end.Goals as goal

pub returns-in-Agent-clause-moved : goal.returns-in-Agent-clause-moved
returns-in-Agent-clause-moved c =
    ok_then_all c.end_running.result c.end_running.ensures.same c.end_running.ensures.frame c.end_running.ensures.stands
    (λ same frame stands. end_came c.args.self.now c.in-Agent.frame c.in-Agent.is c.requires.holds c.end_running.new.frame c.end_running.new.state c.end_running.new.frame.activation
    c.args.ending same frame stands c.frames_stay_nested.ensures.longer c.frames_stay_nested.ensures.ended)

pub returns-in-Agent-clause-holds : goal.returns-in-Agent-clause-holds
returns-in-Agent-clause-holds c =
    ok_then_both c.end_running.result c.end_running.ensures.frame c.end_running.ensures.later
    (λ frame later. end_holds c.args.self.now c.in-Agent.frame c.in-Agent.is c.requires.holds c.end_running.new.frame c.end_running.new.state c.end_running.new.frame.activation frame later)
