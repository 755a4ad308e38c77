use Rattle.std.proofs.Common.{◌≡◌, ◌++◌, drop, map}
use Rattle.cfa_scripts.specs.Walking.{contribution_of}
use Rattle.cfa_scripts.proofs.edit_making.contributions_for.Given as goal

abbrev pub invariant-loop-choice : goal.invariant-loop-choice
invariant-loop-choice g l =
    (l.contributions ++ map (contribution_of l.editor) (drop l.choice-index l.choices) ≡ map (contribution_of l.editor) l.choices)
    × (g.P.Patterns.shown l.pats ≡ g.P.Patterns.shown l.initial.pats)
