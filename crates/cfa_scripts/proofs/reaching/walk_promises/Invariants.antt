use Rattle.std.proofs.Common.{◌≡◌, ◌≤◌, ℕ, List, drop, map}
use Rattle.cfa_scripts.specs.EditBundles.{walked_from}
use Rattle.cfa_scripts.specs.ScriptBuilds.{BuiltAlong}
use Rattle.cfa_scripts.specs.Walking.{seen_around, seen_numbered}
use Rattle.cfa_scripts.proofs.reaching.walk_promises.Given as goal

-- what is left of the walk, the visits so far, and what is built by the promises left
abbrev pub invariant-loop-promise : goal.invariant-loop-promise
invariant-loop-promise g l =
    (walked_from (seen_around l.around) l.walk (map seen_numbered (drop l.promise-index l.promises))
    ≡ walked_from (seen_around l.around) l.fn.first (map seen_numbered l.promises))
    × (l.walk.visits ≤ l.left)
    × (g.P.Patterns.shown l.pats ≡ g.P.Patterns.shown l.initial.pats)
    × ((content : List ℕ) → BuiltAlong (seen_around l.around) l.walk (map seen_numbered (drop l.promise-index l.promises)) content
    → BuiltAlong (seen_around l.around) l.fn.first (map seen_numbered l.promises) content)
