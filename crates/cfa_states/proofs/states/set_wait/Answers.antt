use Rattle.std.proofs.Common.{refl, ◌∙◌}
use Rattle.cfa_states.proofs.WaitLemmas.{wait_put, wait_removed}
use Rattle.cfa_states.proofs.states.set_wait.Goals as goal
use Rattle.cfa_states.proofs.states.set_wait.Goals.{in-None, in-Some+in_ok-insert-in-Some}

pub returns : goal.returns
returns c = λ other.
    let m = c.taken-map.result in
    let old = c.args.calls.now in
    elim c.match-waits.branch [
      | in-None w ↦
          wait_removed m old c.taken-map.ensures w.as_str.result.now c.args.path w.as_str.ensures c.match-waits.map c.args.waits other
          w.in-None.is (w.map-is ∙ w.remove.ensures)
      | in-Some+in_ok-insert-in-Some w ↦
          wait_put m old c.taken-map.ensures c.args.path c.args.path refl c.match-waits.map c.args.waits other
          w.in-Some.wait w.in-Some.is (w.map-is ∙ w.in_ok-insert-in-Some.ensures.ok)
    ]
