use Rattle.cfa_states.specs.History.{History}
use Rattle.cfa_states.specs.Kept.{Stands, IsSame, home_of, AreLater}
use Rattle.cfa_states.specs.Defining.{raise_handed, place_of}
use Rattle.cfa_states.specs.Views.{Setting}
use Rattle.cfa_states.proofs.defining.raise_each.Given as goal

-- it is the same activation, and what was raised so far was raised
abbrev pub invariant-loop-one : goal.invariant-loop-one
invariant-loop-one l =
    (IsSame l.fn.activation l.activation × AreLater l.fn.state l.state l.fn.activation l.activation)
    × ((s : Setting) (h : History) → Stands s l.fn.state l.fn.activation h
    → Stands s l.state l.activation (raise_handed (place_of l.is_common (home_of l.fn.activation)) l.yielded h))
