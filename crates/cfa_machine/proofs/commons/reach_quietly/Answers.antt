use Rattle.std.proofs.Common.{true, ⊎_elim}
use Rattle.std.specs.Prelude.{None}
use Rattle.cfa_kinds.specs.declared.kinds.PromiseType.TheVariants as promises
use Rattle.cfa_states.specs.Kept.{seen_numbered}
use Rattle.cfa_states.specs.lemmas.Statuses.{statuses_agree, statuses_differ}
use Rattle.cfa_statuses.specs.declared.levels.Status.TheVariants.{No}
use Rattle.cfa_visits.specs.lemmas.Types.{types_agree, types_differ}
use Rattle.cfa_machine.proofs.ReachLemmas.{reached_classes, reached_unset, reached_vars}
use Rattle.cfa_machine.proofs.commons.reach_quietly.Goals as goal

pub returns-then-eq-clause-reached : goal.returns-then-eq-clause-reached
returns-then-eq-clause-reached g c = λ policy.
    reached_unset policy true (seen_numbered c.args.promise.now) c.args.guard None c.args.state.now c.pass_over.new.state c.args.activation.now c.args.activation.now c.pass_over.result
    (statuses_agree c.args.guard No c.if-eq.ensures) (c.pass_over.ensures.done policy true)

pub returns-then-eq-2-clause-reached : goal.returns-then-eq-2-clause-reached
returns-then-eq-2-clause-reached g c = λ policy.
    reached_vars policy true (seen_numbered c.args.promise.now) c.args.guard None c.args.state.now c.reach_vars.new.state c.args.activation.now c.reach_vars.new.activation c.reach_vars.result
    (statuses_differ c.args.guard No c.if-eq.ensures) (types_agree c.args.promise.now.promise_type promises.Vars c.if-eq-2.ensures) (c.reach_vars.ensures.done policy true)

pub returns-clause-reached : goal.returns-clause-reached
returns-clause-reached g c = λ policy.
    reached_classes policy true (seen_numbered c.args.promise.now) c.args.guard None c.args.state.now c.reach_classes.new.state c.args.activation.now c.reach_classes.new.activation c.reach_classes.result
    (statuses_differ c.args.guard No c.if-eq.ensures)
    (⊎_elim (λ vars. absurd (types_differ c.args.promise.now.promise_type promises.Vars c.if-eq-2.ensures vars)) (λ classes. classes) c.requires.common)
    (c.reach_classes.ensures.done policy)
