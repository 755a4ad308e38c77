use Rattle.cfa_states.specs.History.{History}
use Rattle.cfa_states.specs.Kept.{Stands, IsSame, AreLater}
use Rattle.cfa_states.specs.Passes.{set_each}
use Rattle.cfa_states.specs.Views.{Setting}
use Rattle.cfa_states.proofs.defining.set_each.Given as goal

-- it is the same activation, and what was set so far was set
abbrev pub invariant-loop-datum : goal.invariant-loop-datum
invariant-loop-datum l =
    (IsSame l.fn.activation l.activation × AreLater l.fn.state l.state l.fn.activation l.activation)
    × ((s : Setting) (h : History) → Stands s l.fn.state l.fn.activation h → Stands s l.state l.activation (set_each l.fn.activation.path l.name l.yielded h))
