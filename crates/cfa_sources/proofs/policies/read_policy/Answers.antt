use Rattle.std.proofs.Common.{◌∙◌}
use Rattle.cfa_base.specs.lemmas.Results.{on_err}
use Rattle.cfa_tree.specs.Plain.{plain_policy}
use Rattle.cfa_sources.specs.Readings.{PolicyRead}
use Rattle.cfa_sources.proofs.CheckLemmas.{is_sourced, few_inputs, main_failed, later_failed, policy_checked}
use Rattle.cfa_sources.proofs.policies.read_policy.Goals as goal

pub returns-in_err-main : goal.returns-in_err-main
returns-in_err-main g c =
    on_err (PolicyRead c.args.policy.now (g.I.Inputs.shown c.args.inputs.now) (g.I.Inputs.shown c.read_file.new.inputs) (g.P.Patterns.shown c.args.pats.now) (g.P.Patterns.shown c.args.pats.now)) c.from_residual.result c.in_err-main.field-0.0 c.from_residual.ensures.1
    (main_failed c.args.policy.now (g.I.Inputs.shown c.args.inputs.now) (g.I.Inputs.shown c.read_file.new.inputs) (g.P.Patterns.shown c.args.pats.now) c.in_err-main.field-0.0 c.in_err-main.ensures)

pub read_inputs-requires-clause-few : goal.read_inputs-requires-clause-few
read_inputs-requires-clause-few g c = few_inputs (plain_policy c.in_ok-main.main) c.as_slice.result.now (c.as_slice.ensures ∙ c.in_ok-names.ensures)

pub returns-in_err-parts : goal.returns-in_err-parts
returns-in_err-parts g c =
    on_err (PolicyRead c.args.policy.now (g.I.Inputs.shown c.args.inputs.now) (g.I.Inputs.shown c.read_inputs.new.inputs) (g.P.Patterns.shown c.args.pats.now) (g.P.Patterns.shown c.args.pats.now)) c.from_residual-in_err-parts.result c.in_err-parts.field-0.0 c.from_residual-in_err-parts.ensures.1
    (later_failed c.args.policy.now (g.I.Inputs.shown c.args.inputs.now) (g.I.Inputs.shown c.read_file.new.inputs) (g.I.Inputs.shown c.read_inputs.new.inputs) (g.P.Patterns.shown c.args.pats.now) c.in_ok-main.main c.as_slice.result.now c.in_err-parts.field-0.0
    (c.as_slice.ensures ∙ c.in_ok-names.ensures) c.in_ok-main.ensures c.in_err-parts.ensures)

pub check_tree-requires : goal.check_tree-requires
check_tree-requires g c =
    is_sourced (g.I.Inputs.shown c.read_file.new.inputs).told (plain_policy c.in_ok-main.main) c.as_slice.result.now c.in_ok-parts.parts.items (plain_policy c.in_ok-tree.tree)
    (few_inputs (plain_policy c.in_ok-main.main) c.as_slice.result.now (c.as_slice.ensures ∙ c.in_ok-names.ensures)) c.in_ok-parts.ensures.parts c.in_ok-tree.ensures

pub returns : goal.returns
returns g c =
    policy_checked c.args.policy.now (g.I.Inputs.shown c.args.inputs.now) (g.I.Inputs.shown c.read_file.new.inputs) (g.I.Inputs.shown c.read_inputs.new.inputs) (g.P.Patterns.shown c.args.pats.now) (g.P.Patterns.shown c.check_tree.new.pats)
    c.in_ok-main.main c.in_ok-tree.tree c.as_slice.result.now c.as_slice-2.result.now c.in_ok-parts.parts c.check_tree.result (c.as_slice.ensures ∙ c.in_ok-names.ensures) (c.as_slice-2.ensures ∙ c.in_ok-names.ensures)
    c.in_ok-tree.ensures c.in_ok-main.ensures c.in_ok-parts.ensures c.check_tree.ensures
