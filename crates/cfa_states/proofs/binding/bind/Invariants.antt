use Rattle.std.proofs.Common.{map, take}
use Rattle.cfa_tree.specs.Plain.{plain_named}
use Rattle.cfa_states.specs.History.{History}
use Rattle.cfa_states.specs.Kept.{Stands, IsSame, AreLater}
use Rattle.cfa_states.specs.Passes.{bind}
use Rattle.cfa_states.specs.Views.{Setting}
use Rattle.cfa_states.proofs.binding.bind.Given as goal

-- it is the same activation, and the parameters so far were bound
abbrev pub invariant-loop-place : goal.invariant-loop-place
invariant-loop-place l =
    (IsSame l.fn.activation l.activation × AreLater l.fn.state l.state l.fn.activation l.activation)
    × ((s : Setting) (h : History) → Stands s l.fn.state l.fn.activation h
    → Stands s l.state l.activation (bind l.fn.activation.path (map plain_named (take l.place l.params)) l.given h))
