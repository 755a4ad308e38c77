use Rattle.std.proofs.Common.{arith, refl, ◌∙◌, ◌+◌}
use Rattle.cfa_agent.proofs.Logs.{fault_behind}
use Rattle.cfa_agent.proofs.Acting.{so_far_start, so_far_kept, so_far_changed, so_far_failed, so_far_refused, so_far_end, same_count}
use Rattle.cfa_agent.proofs.actuating.run_acts.Goals as goal
use Rattle.cfa_agent.proofs.actuating.run_acts.Goals.{in-Kept, in-Changed+in_ok-changes-in-Changed}

pub loop-act-init : goal.loop-act-init
loop-act-init g c = record {
  calm = refl;
  so_far = so_far_start c.args.heading c.args.instance.now c.args.acts.now (g.S.Site.shown c.args.site.now);
}

pub returns-in-Failed : goal.returns-in-Failed
returns-in-Failed g c =
    let took = rw c.in-Failed.is at c.in_ok-take_act.ensures in
    record {
      done = so_far_failed c.args.heading c.args.instance.now c.args.acts.now c.loop-act.act-index c.act-item.result c.loop-act.changes (g.S.Site.shown c.args.site.now) (g.S.Site.shown c.loop-act.site) (g.S.Site.shown c.take_act.new.site) c.in-Failed.reason (omega arith) c.act-item.is c.loop-act.invariant.so_far took.taken;
      cause = took.cause ∙ c.loop-act.invariant.calm;
      caused = took.own;
      stopped = tt;
    }

pub returns-in-Refused : goal.returns-in-Refused
returns-in-Refused g c =
    let took = rw c.in-Refused.is at c.in_ok-take_act.ensures in
    record {
      done = so_far_refused c.args.heading c.args.instance.now c.args.acts.now c.loop-act.act-index c.act-item.result c.loop-act.changes (g.S.Site.shown c.args.site.now) (g.S.Site.shown c.loop-act.site) (g.S.Site.shown c.take_act.new.site) c.in-Refused.call (omega arith) c.act-item.is c.loop-act.invariant.so_far took.taken;
      cause = fault_behind (g.S.Site.shown c.args.site.now) (g.S.Site.shown c.loop-act.site) (g.S.Site.shown c.take_act.new.site) c.loop-act.invariant.calm took.cause;
      caused = refl;
      stopped = tt;
    }

pub loop-act-preserved : goal.loop-act-preserved
loop-act-preserved g c = elim c.match-branch-2.branch [
  | in-Kept w ↦
      (let took = rw w.in-Kept.is at c.in_ok-take_act.ensures in
      record {
        calm = took.cause ∙ c.loop-act.invariant.calm;
        so_far = same_count c.args.heading c.args.instance.now c.args.acts.now _ c.loop-act.changes c.match-branch-2.changes (g.S.Site.shown c.args.site.now) (g.S.Site.shown c.take_act.new.site) w.changes-is
            (so_far_kept c.args.heading c.args.instance.now c.args.acts.now c.loop-act.act-index c.act-item.result c.loop-act.changes (g.S.Site.shown c.args.site.now) (g.S.Site.shown c.loop-act.site) (g.S.Site.shown c.take_act.new.site) (omega arith) c.act-item.is c.loop-act.invariant.so_far took.taken);
      })
  | in-Changed+in_ok-changes-in-Changed w ↦
      (let took = rw w.in-Changed.is at c.in_ok-take_act.ensures in
      record {
        calm = took.cause ∙ c.loop-act.invariant.calm;
        so_far = same_count c.args.heading c.args.instance.now c.args.acts.now _ (c.loop-act.changes + 1) c.match-branch-2.changes (g.S.Site.shown c.args.site.now) (g.S.Site.shown c.take_act.new.site) (w.changes-is ∙ w.in_ok-changes-in-Changed.ensures)
            (so_far_changed c.args.heading c.args.instance.now c.args.acts.now c.loop-act.act-index c.act-item.result c.loop-act.changes (g.S.Site.shown c.args.site.now) (g.S.Site.shown c.loop-act.site) (g.S.Site.shown c.take_act.new.site) (omega arith) c.act-item.is c.loop-act.invariant.so_far took.taken);
      })
]

pub returns : goal.returns
returns g c = record {
  done = so_far_end c.args.heading c.args.instance.now c.args.acts.now c.loop-act.act-index c.loop-act.changes (g.S.Site.shown c.args.site.now) (g.S.Site.shown c.loop-act.site) (omega arith) c.loop-act.invariant.so_far;
  cause = c.loop-act.invariant.calm;
  caused = tt;
  stopped = tt;
}
