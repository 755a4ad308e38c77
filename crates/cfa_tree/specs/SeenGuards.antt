-- The state that a reader of guards is in, without where it lies in memory, and when it refuses a token. Levels stand
-- innermost first.
use Rattle.std.specs.Prelude.{◌≡◌, List, map, reverse, Option, None, IsSome}
use Rattle.std.specs.declared.alloc.Global.{Global}
use Rattle.std.specs.declared.vec.Vec.{Vec}
use Rattle.cfa_tree.specs.declared.expressions.Expr.{Expr}
use Rattle.cfa_tree.specs.declared.guards.GuardLevel.{GuardLevel}
use Rattle.cfa_tree.specs.declared.guards.GuardState.{GuardState}
use Rattle.cfa_tree.specs.declared.guards.GuardState.TheVariants.{WantsAtom, HasAtom}
use Rattle.cfa_tree.specs.declared.guards.GuardProgress.{GuardProgress}
use Rattle.cfa_tree.specs.declared.guards.GuardProgress.TheVariants.{GoesOn, Ended}
use Rattle.cfa_tree.specs.declared.guards.GuardErr.{GuardErr}
use Rattle.cfa_tree.specs.declared.guards.GuardErr.TheVariants.{Unexpected, TooDeep, NoMemory}
use Rattle.cfa_tree.specs.Guards as guards
use Rattle.cfa_tree.specs.Plain.{plain_expr}
use Rattle.cfa_tree.specs.Tree.{ExprTree}

abbrev pub seen_exprs : Vec Expr Global → List ExprTree
seen_exprs exprs = map plain_expr exprs.items

abbrev pub seen_level : GuardLevel → guards.GuardLevel
seen_level l = record { conjs = map plain_expr l.conjs.items; atoms = map plain_expr l.atoms.items; negations = l.negations }

abbrev pub seen_levels : List GuardLevel → List guards.GuardLevel
seen_levels levels = map seen_level (reverse levels)

abbrev pub seen_guard : GuardState → guards.GuardState
seen_guard (WantsAtom level outer) = guards.wants_atom (seen_level level) (seen_levels outer.items)
seen_guard (HasAtom conjs atoms outer) = guards.has_atom (map plain_expr conjs.items) (map plain_expr atoms.items) (seen_levels outer.items)

abbrev pub seen_guard_progress : GuardProgress → guards.GuardProgress
seen_guard_progress (GoesOn g) = guards.goes_on (seen_guard g)
seen_guard_progress (Ended e) = guards.ended (plain_expr e)

-- a token is refused without a limit on levels too, or only because it opens one level too many; the two steps are those
-- within the limit and without one
abbrev pub GuardRefused : {S : Type 0} → Option S → Option S → GuardErr → Type 0
GuardRefused within beyond Unexpected = (within ≡ None) × (beyond ≡ None)
GuardRefused within beyond TooDeep = (within ≡ None) × IsSome beyond
GuardRefused within beyond NoMemory = Unit {0}
