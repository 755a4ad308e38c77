use Rattle.cfa_main.specs.Stages.{setting_in}
use Rattle.cfa_main.proofs.SearchLemmas.{policy_searched}
use Rattle.cfa_main.proofs.searching.search_policy.Goals as goal

pub returns-in-Ok : goal.returns-in-Ok
returns-in-Ok g c = policy_searched (setting_in c.args.policy.now) c.in-Ok.walk c.as_slice.result.now (g.O.Sink.shown c.args.out.now) (g.O.Sink.shown c.tell_findings.new.out) (g.P.Patterns.shown c.args.pats.now) (g.P.Patterns.shown c.walk.new.pats) c.tell_findings.result c.in-Ok.ensures.walked c.as_slice.ensures c.tell_findings.ensures.told c.tell_findings.ensures.stopped c.in-Ok.ensures.patterns
