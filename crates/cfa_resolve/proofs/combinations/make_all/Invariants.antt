use Rattle.std.proofs.Common.{◌≡◌, ◌≤◌, ◌+◌, ◌++◌, [], drop}
use Rattle.cfa_resolve.specs.Resolution.{instances_for, names_after, inner_visits, inner_unsettled}
use Rattle.cfa_resolve.specs.OfTheCode.{seen_reached}
use Rattle.cfa_resolve.proofs.combinations.make_all.Given as goal

abbrev pub invariant-loop-choice : goal.invariant-loop-choice
invariant-loop-choice g l =
    (l.all.instances.items ++ instances_for (seen_reached l.reached) (drop l.choice-index l.choices) ≡ instances_for (seen_reached l.reached) l.choices)
    × (names_after (seen_reached l.reached) l.all.names (drop l.choice-index l.choices) ≡ names_after (seen_reached l.reached) [] l.choices)
    × (l.all.unsettled ++ inner_unsettled (seen_reached l.reached) (drop l.choice-index l.choices) ≡ inner_unsettled (seen_reached l.reached) l.choices)
    × (l.all.visits + inner_visits (seen_reached l.reached) (drop l.choice-index l.choices) ≡ inner_visits (seen_reached l.reached) l.choices)
    × (l.all.visits ≤ l.left)
    × (g.P.Patterns.shown l.pats ≡ g.P.Patterns.shown l.initial.pats)
