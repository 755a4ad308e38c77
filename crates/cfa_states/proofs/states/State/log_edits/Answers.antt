use Rattle.std.proofs.Common.{[], ◌∷◌, sym, ap, ◌∙◌, Option}
use Rattle.std.specs.Prelude.{option_map}
use Rattle.std.specs.List.{cons_option}
use Rattle.cfa_states.specs.declared.waits.Wait.{Wait}
use Rattle.cfa_states.specs.declared.walks.Blame.{Blame}
use Rattle.cfa_states.specs.Waits.{wait_on}
use Rattle.cfa_states.specs.Walks.{blame_for}
use Rattle.cfa_states.proofs.LogLemmas.{edits_more, none_more}
use Rattle.cfa_states.proofs.states.State.log_edits.Goals as goal
use Rattle.cfa_states.proofs.states.State.log_edits.Goals.{in-Some+in_ok-blame_for+in_ok-log_blame, in_default}

pub loop-one-preserved : goal.loop-one-preserved
loop-one-preserved c =
    let st = c.args.self.now in
    let st1 = c.loop-one.self in
    let us = c.args.unsettled.now in
    let u = c.one-item.result in
    let found = c.in_ok-wait.field-0 in
    let found_is = c.in_ok-wait.ensures ∙ ap (wait_on u.class) c.source-source.ensures in
    elim c.match-branch-2.branch [
      | in-Some+in_ok-blame_for+in_ok-log_blame w ↦
          edits_more st st1 us c.loop-one.one-index u c.loop-one-test.true c.one-item.is c.loop-one.invariant found found_is c.match-branch-2.self (w.in_ok-blame_for.field-0 ∷ [])
          (ap (λ (b : Blame). b ∷ []) w.in_ok-blame_for.ensures ∙ ap (λ (o : Option Wait). cons_option (option_map (blame_for u.promise) o) []) (sym w.in-Some.is))
          (w.self-is ∙ w.in_ok-log_blame.ensures)
      | in_default w ↦
          none_more st st1 us c.loop-one.one-index u c.loop-one-test.true c.one-item.is c.loop-one.invariant found found_is c.match-branch-2.self w.in_default.is w.self-is
    ]
