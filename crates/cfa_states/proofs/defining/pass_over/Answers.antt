use Rattle.std.proofs.Common.{ap}
use Rattle.cfa_states.specs.declared.states.State.{State}
use Rattle.cfa_states.specs.Kept.{seen_numbered}
use Rattle.cfa_states.specs.lemmas.Later.{later_by}
use Rattle.cfa_states.proofs.DefiningLemmas.{passed_over}
use Rattle.cfa_states.proofs.defining.pass_over.Goals as goal

pub returns-then-count-clause-done : goal.returns-then-count-clause-done
returns-then-count-clause-done c = λ policy is_common.
    passed_over policy is_common (seen_numbered c.args.promise.now) c.args.state.now c.count.new.self c.args.activation.now (c.count.ensures.within c.if-count.true) (c.count.ensures.left c.if-count.true)

pub returns-then-count-clause-later : goal.returns-then-count-clause-later
returns-then-count-clause-later c =
    let left = c.count.ensures.left c.if-count.true in
    later_by c.args.state.now c.count.new.self
    (ap (λ (x : State). x.changes) left) (ap (λ (x : State). x.environment.statuses) left) (ap (λ (x : State). x.shared) left)
