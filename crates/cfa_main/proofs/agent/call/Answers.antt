use Rattle.std.proofs.Common.{◌≡◌, ℕ, List, Ok, Err, refl, subst}
use Rattle.cfa_base.specs.Shown.{Shown}
use Rattle.cfa_outside.specs.Inputs.{Library}
use Rattle.cfa_outside.specs.Sites.{Told}
use Rattle.cfa_output.specs.declared.ends.Stop.{Stop}
use Rattle.cfa_output.specs.Lines.{stop_line}
use Rattle.cfa_main.specs.declared.ends.End.{End}
use Rattle.cfa_main.specs.declared.work.Work.{Work}
use Rattle.cfa_main.specs.Done.{status_of}
use Rattle.cfa_main.specs.Stages.{Prepared, Performed, PutsStop, status_of_stop, Called, not_prepared, ended, stopped_at_work}
use Rattle.cfa_main.proofs.agent.call.Goals as goal

module _ (words : List (List ℕ)) (moment : ℕ) (inputs inputs' : Shown Library) (site site' : Shown Told) (out out' : Shown (List ℕ)) (pats kept pats' : Shown (List (List ℕ))) (status : ℕ) (work : Work)
    (p : Prepared words moment inputs inputs' pats kept (Ok work)) where
  -- no pattern was refused before the work
  kept_is : kept ≡ pats
  kept_is = p.patterns_are

  prepared : Prepared words moment inputs inputs' pats pats (Ok work)
  prepared = subst (λ k. Prepared words moment inputs inputs' pats k (Ok work)) kept_is p

  at_end : (end : End) → Performed work moment site site' out out' kept pats' (Ok end) → status ≡ status_of end → Called words moment inputs inputs' site site' out out' pats pats' status
  at_end end done is = ended end prepared (subst (λ k. Performed work moment site site' out out' k pats' (Ok end)) kept_is done) is

  at_stop : (stop : Stop) (mid : Shown (List ℕ)) → Performed work moment site site' out mid kept pats' (Err stop) → PutsStop (stop_line stop) (status_of_stop stop) mid out' status →
      Called words moment inputs inputs' site site' out out' pats pats' status
  at_stop stop mid done put = stopped_at_work stop mid prepared (subst (λ k. Performed work moment site site' out mid k pats' (Err stop)) kept_is done) put

pub returns-in-Ok-done : goal.returns-in-Ok-done
returns-in-Ok-done g c = at_end c.args.words.now c.args.moment (g.I.Inputs.shown c.args.inputs.now) (g.I.Inputs.shown c.prepare.new.inputs) (g.S.Site.shown c.args.site.now) (g.S.Site.shown c.perform-done.new.site) (g.O.Sink.shown c.args.out.now) (g.O.Sink.shown c.perform-done.new.out)
    (g.P.Patterns.shown c.args.pats.now) (g.P.Patterns.shown c.prepare.new.pats) (g.P.Patterns.shown c.perform-done.new.pats) c.end_status.result c.in-Ok.work c.in-Ok.ensures c.in-Ok-done.end c.in-Ok-done.ensures c.end_status.ensures

pub returns-in-Err-done : goal.returns-in-Err-done
returns-in-Err-done g c = at_stop c.args.words.now c.args.moment (g.I.Inputs.shown c.args.inputs.now) (g.I.Inputs.shown c.prepare.new.inputs) (g.S.Site.shown c.args.site.now) (g.S.Site.shown c.perform-done.new.site) (g.O.Sink.shown c.args.out.now) (g.O.Sink.shown c.put_stop-status.new.out)
    (g.P.Patterns.shown c.args.pats.now) (g.P.Patterns.shown c.prepare.new.pats) (g.P.Patterns.shown c.perform-done.new.pats) c.put_stop-status.result c.in-Ok.work c.in-Ok.ensures c.in-Err-done.stop (g.O.Sink.shown c.perform-done.new.out) c.in-Err-done.ensures c.put_stop-status.ensures

pub returns-in-Err : goal.returns-in-Err
returns-in-Err g c = not_prepared c.in-Err.ensures refl c.put_failure-status.ensures
