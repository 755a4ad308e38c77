use Rattle.cfa_base.specs.lemmas.Results.{on_err}
use Rattle.cfa_output.specs.declared.ends.Stop.TheVariants.{Memory}
use Rattle.cfa_output.specs.declared.ends.Failure.TheVariants.{Stopped}
use Rattle.cfa_main.specs.Stages.{PolicyPrepared}
use Rattle.cfa_main.proofs.RunLemmas as runs
use Rattle.cfa_main.proofs.preparing.prepare_policy.Goals as goal

pub returns-in_err-checked : goal.returns-in_err-checked
returns-in_err-checked g c =
    on_err (PolicyPrepared c.args.policy.now c.args.handed_in.now c.args.moment (g.I.Inputs.shown c.args.inputs.now) (g.I.Inputs.shown c.read_policy.new.inputs) (g.P.Patterns.shown c.args.pats.now) (g.P.Patterns.shown c.read_policy.new.pats)) c.from_residual.result c.in_err-checked.field-0.0 c.from_residual.ensures.1
    (runs.policy_not_read c.args.policy.now c.args.handed_in.now c.args.moment (g.I.Inputs.shown c.args.inputs.now) (g.I.Inputs.shown c.read_policy.new.inputs) (g.P.Patterns.shown c.args.pats.now) (g.P.Patterns.shown c.read_policy.new.pats) c.in_err-checked.field-0.0 c.in_err-checked.ensures)

pub returns-in_err-context : goal.returns-in_err-context
returns-in_err-context g c =
    on_err (PolicyPrepared c.args.policy.now c.args.handed_in.now c.args.moment (g.I.Inputs.shown c.args.inputs.now) (g.I.Inputs.shown c.read_policy.new.inputs) (g.P.Patterns.shown c.args.pats.now) (g.P.Patterns.shown c.read_policy.new.pats)) c.from_residual-in_err-context.result (Stopped Memory) c.from_residual-in_err-context.ensures.1
    (runs.policy_without_memory c.args.policy.now c.args.handed_in.now c.args.moment (g.I.Inputs.shown c.args.inputs.now) (g.I.Inputs.shown c.read_policy.new.inputs) (g.P.Patterns.shown c.args.pats.now) (g.P.Patterns.shown c.read_policy.new.pats) c.in_ok-checked.checked c.in_ok-checked.ensures)

pub returns : goal.returns
returns g c =
    runs.policy_read c.args.policy.now c.args.handed_in.now c.args.moment (g.I.Inputs.shown c.args.inputs.now) (g.I.Inputs.shown c.read_policy.new.inputs) (g.P.Patterns.shown c.args.pats.now) (g.P.Patterns.shown c.read_policy.new.pats)
    (record { checked = c.in_ok-checked.checked; context = c.in_ok-context.context }) c.in_ok-checked.ensures c.in_ok-context.ensures
