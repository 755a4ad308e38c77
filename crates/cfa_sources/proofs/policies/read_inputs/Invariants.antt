use Rattle.std.proofs.Common.{◌≡◌, map, take}
use Rattle.cfa_tree.specs.Plain.{plain_policy}
use Rattle.cfa_sources.specs.Steps.{PartsRead}
use Rattle.cfa_sources.proofs.policies.read_inputs.Given as goal

abbrev pub invariant-loop-i : goal.invariant-loop-i
invariant-loop-i g l =
    record {
      same : g.I.Inputs.shown l.inputs ≡ g.I.Inputs.shown l.fn.inputs;
      read : PartsRead (g.I.Inputs.shown l.fn.inputs).told (plain_policy l.fn.main) (take l.i l.names) (map plain_policy l.parts.items);
    }
