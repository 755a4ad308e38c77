use Rattle.std.proofs.Common.{Bool, false, sym, subst}
use Rattle.std.specs.Prelude.{Result}
use Rattle.cfa_output.specs.declared.ends.Stop.{Stop}
use Rattle.cfa_schema.specs.Seen.{tree_of}
use Rattle.cfa_states.specs.Kept.{seen_numbered}
use Rattle.cfa_states.specs.lemmas.Statuses.{statuses_agree, statuses_differ}
use Rattle.cfa_statuses.specs.declared.levels.Status.TheVariants.{No}
use Rattle.cfa_machine.specs.Reaching.{Reaches}
use Rattle.cfa_machine.proofs.ReachLemmas.{acting_type, reached_acting, reached_classes, reached_unset, reached_vars}
use Rattle.cfa_machine.proofs.reaching.reach_promise.Goals as goal

pub returns-then-eq-clause-reached : goal.returns-then-eq-clause-reached
returns-then-eq-clause-reached g c =
    let policy = tree_of c.args.checked.now in
    let p = seen_numbered c.args.promise.now in
    subst (λ (r : Result Bool Stop). Reaches policy false p c.args.guard c.args.kept.now c.args.state.now c.pass_over.new.state c.args.activation.now c.args.activation.now r)
    (sym c.without_instances.ensures)
    (reached_unset policy false p c.args.guard c.args.kept.now c.args.state.now c.pass_over.new.state c.args.activation.now c.args.activation.now c.pass_over.result
    (statuses_agree c.args.guard No c.if-eq.ensures) (c.pass_over.ensures.done policy false))

pub returns-in-Vars-clause-reached : goal.returns-in-Vars-clause-reached
returns-in-Vars-clause-reached g c =
    let policy = tree_of c.args.checked.now in
    let p = seen_numbered c.args.promise.now in
    subst (λ (r : Result Bool Stop). Reaches policy false p c.args.guard c.args.kept.now c.args.state.now c.reach_vars.new.state c.args.activation.now c.reach_vars.new.activation r)
    (sym c.without_instances-in-Vars.ensures)
    (reached_vars policy false p c.args.guard c.args.kept.now c.args.state.now c.reach_vars.new.state c.args.activation.now c.reach_vars.new.activation c.reach_vars.result
    (statuses_differ c.args.guard No c.if-eq.ensures) c.in-Vars.is (c.reach_vars.ensures.done policy false))

pub returns-in-Classes-clause-reached : goal.returns-in-Classes-clause-reached
returns-in-Classes-clause-reached g c =
    let policy = tree_of c.args.checked.now in
    let p = seen_numbered c.args.promise.now in
    subst (λ (r : Result Bool Stop). Reaches policy false p c.args.guard c.args.kept.now c.args.state.now c.reach_classes.new.state c.args.activation.now c.reach_classes.new.activation r)
    (sym c.without_instances-in-Classes.ensures)
    (reached_classes policy false p c.args.guard c.args.kept.now c.args.state.now c.reach_classes.new.state c.args.activation.now c.reach_classes.new.activation c.reach_classes.result
    (statuses_differ c.args.guard No c.if-eq.ensures) c.in-Classes.is (c.reach_classes.ensures.done policy))

pub returns-in-Files-clause-reached : goal.returns-in-Files-clause-reached
returns-in-Files-clause-reached g c =
    let policy = tree_of c.args.checked.now in
    let p = seen_numbered c.args.promise.now in
    subst (λ (r : Result Bool Stop). Reaches policy false p c.args.guard c.count_instances.new.kept c.args.state.now c.count_instances.new.state c.args.activation.now c.count_instances.new.activation r)
    (sym c.with_instances.ensures)
    (reached_acting policy p c.args.guard c.count_instances.new.kept c.args.state.now c.count_instances.new.state c.args.activation.now c.count_instances.new.activation c.count_instances.result
    (statuses_differ c.args.guard No c.if-eq.ensures) (acting_type c.args.promise.now.promise_type c.in-Files.is) c.count_instances.ensures.counted)
