use Rattle.std.proofs.Common.{◌∙◌, List, ◌∷◌, ◌++◌, [], ap, refl, map, arith}
use Rattle.cfa_base.specs.lemmas.Results.{on_err}
use Rattle.cfa_tree.specs.declared.blocks.Policy.{Policy}
use Rattle.cfa_tree.specs.Plain.{plain_policy}
use Rattle.cfa_sources.specs.Steps.{InputsRead}
use Rattle.cfa_sources.proofs.InputLemmas.{parts_first, parts_more, inputs_read, input_failed}
use Rattle.cfa_sources.proofs.policies.read_inputs.Goals as goal

pub loop-i-init : goal.loop-i-init
loop-i-init g c = record {
  same = refl;
  read = parts_first (g.I.Inputs.shown c.args.inputs.now).told c.args.main c.args.names.now c.push.new.self.items
      (c.in_ok-push.ensures.items ∙ ap (λ (ps : List Policy). ps ++ c.args.main ∷ []) c.new-parts.ensures.items) c.requires.main_read;
}

pub loop-i-preserved : goal.loop-i-preserved
loop-i-preserved g c = record {
  same = c.in_ok-tree.ensures.inputs_are ∙ c.loop-i.invariant.same;
  read = parts_more (g.I.Inputs.shown c.args.inputs.now) (g.I.Inputs.shown c.loop-i.inputs) (g.I.Inputs.shown c.read_file.new.inputs) (plain_policy c.args.main) c.args.names.now c.loop-i.i c.index-names-i.result
      c.loop-i.parts.items c.push-in-loop-i.new.self.items c.in_ok-tree.tree (omega arith) c.index-names-i.is c.loop-i.invariant.same c.in_ok-push-2.ensures.items c.loop-i.invariant.read c.in_ok-tree.ensures;
}

pub returns-in_err-tree : goal.returns-in_err-tree
returns-in_err-tree g c =
    on_err (InputsRead (plain_policy c.args.main) c.args.names.now (g.I.Inputs.shown c.args.inputs.now) (g.I.Inputs.shown c.read_file.new.inputs)) c.from_residual-in_err-tree.result c.in_err-tree.field-0.0 c.from_residual-in_err-tree.ensures.1
    (input_failed (g.I.Inputs.shown c.args.inputs.now) (g.I.Inputs.shown c.loop-i.inputs) (g.I.Inputs.shown c.read_file.new.inputs) (plain_policy c.args.main) c.args.names.now c.loop-i.i c.index-names-i.result
    (map plain_policy c.loop-i.parts.items) c.in_err-tree.field-0.0 (omega arith) c.index-names-i.is c.loop-i.invariant.same c.loop-i.invariant.read c.in_err-tree.ensures)

pub returns : goal.returns
returns g c =
    inputs_read (g.I.Inputs.shown c.args.inputs.now) (g.I.Inputs.shown c.loop-i.inputs) (plain_policy c.args.main) c.args.names.now c.loop-i.i c.loop-i.parts (omega arith) c.loop-i.invariant.same c.loop-i.invariant.read
