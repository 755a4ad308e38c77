use Rattle.std.proofs.Common.{◌≡◌, map, option_copied}
use Rattle.cfa_defines.specs.SeenRaises.{seen_raise}
use Rattle.cfa_scripts.specs.EditBundles.{handed_raise}
use Rattle.cfa_scripts.specs.Walking.{seen_around}
use Rattle.cfa_scripts.proofs.raising.hand_each.Given as goal

abbrev pub invariant-loop-raise : goal.invariant-loop-raise
invariant-loop-raise l = l.all.items ≡ map (handed_raise (seen_around l.around) l.inside l.guard (option_copied l.in_guard)) (map seen_raise l.yielded)
