use Rattle.std.proofs.Common.{refl}
use Rattle.cfa_base.specs.lemmas.Results.{on_err}
use Rattle.cfa_main.specs.Stages.{RunPrepared}
use Rattle.cfa_main.proofs.RunLemmas as runs
use Rattle.cfa_main.proofs.preparing.prepare_run.Goals as goal

pub returns-in_err-policy : goal.returns-in_err-policy
returns-in_err-policy g c =
    on_err (RunPrepared c.args.policy.now c.args.options.now c.args.moment (g.I.Inputs.shown c.args.inputs.now) (g.I.Inputs.shown c.prepare_policy.new.inputs) (g.P.Patterns.shown c.args.pats.now) (g.P.Patterns.shown c.prepare_policy.new.pats)) c.from_residual.result c.in_err-policy.field-0.0 c.from_residual.ensures.1
    (runs.run_not_read c.args.policy.now c.args.options.now c.args.moment (g.I.Inputs.shown c.args.inputs.now) (g.I.Inputs.shown c.prepare_policy.new.inputs) (g.P.Patterns.shown c.args.pats.now) (g.P.Patterns.shown c.prepare_policy.new.pats) c.in_err-policy.field-0.0 c.in_err-policy.ensures)

pub returns : goal.returns
returns g c =
    runs.run_read c.args.policy.now c.args.options.now c.args.moment (g.I.Inputs.shown c.args.inputs.now) (g.I.Inputs.shown c.prepare_policy.new.inputs) (g.P.Patterns.shown c.args.pats.now) (g.P.Patterns.shown c.prepare_policy.new.pats)
    (record { policy = c.in_ok-policy.policy; locks = c.args.options.now.locks; strict = c.args.options.now.strict }) c.in_ok-policy.ensures refl refl
