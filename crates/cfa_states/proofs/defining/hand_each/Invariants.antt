use Rattle.std.proofs.Common.{◌≡◌, map}
use Rattle.std.specs.Prelude.{option_copied}
use Rattle.cfa_defines.specs.SeenRaises.{seen_raise}
use Rattle.cfa_states.specs.History.{History}
use Rattle.cfa_states.specs.Kept.{Stands}
use Rattle.cfa_states.specs.Defining.{hand}
use Rattle.cfa_states.specs.Views.{Setting}
use Rattle.cfa_states.proofs.defining.hand_each.Given as goal

abbrev pub invariant-loop-raise : goal.invariant-loop-raise
invariant-loop-raise l =
    (s : Setting) (h : History) → Stands s l.state l.activation h → l.handed.items ≡ map (hand h l.activation.path l.guard (option_copied l.in_guard)) (map seen_raise l.yielded)
