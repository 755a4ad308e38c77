use Rattle.std.proofs.Common.{◌≡◌, drop, IfSome}
use Rattle.cfa_agent.proofs.Acting.{SoFar}
use Rattle.cfa_agent.proofs.actuating.run_acts.Given as goal

abbrev pub invariant-loop-act : goal.invariant-loop-act
invariant-loop-act g l =
    record {
      calm : (g.S.Site.shown l.site).faults ≡ (g.S.Site.shown l.fn.site).faults;
      so_far : IfSome (g.S.Site.shown l.fn.site).told (SoFar l.heading l.instance l.acts (drop l.act-index l.acts) l.changes (g.S.Site.shown l.site));
    }
