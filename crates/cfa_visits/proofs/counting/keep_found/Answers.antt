use Rattle.std.proofs.Common.{◌-◌}
use Rattle.std.proofs.lemmas.Result.{on_ok_weaker}
use Rattle.cfa_states.specs.declared.states.State.{State}
use Rattle.cfa_visits.proofs.CountLemmas.{noted}
use Rattle.cfa_visits.proofs.counting.keep_found.Goals as goal

pub returns-clause-state : goal.returns-clause-state
returns-clause-state c =
    let st = c.args.state.now in
    let counted : State = record st { left = st.left - c.args.found.resolved.visits } in
    on_ok_weaker c.log_edits-noted.result
    (λ notes. noted counted c.log_edits-noted.new.self c.as_slice.result.now c.args.found.resolved.unsettled c.as_slice.ensures notes)
    c.log_edits-noted.ensures
