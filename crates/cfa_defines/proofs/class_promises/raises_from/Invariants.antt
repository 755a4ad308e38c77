use Rattle.std.proofs.Common.{◌≡◌, ◌++◌, drop, map}
use Rattle.std.specs.List.{list_any, filter_map}
use Rattle.cfa_statuses.specs.Raised.{greater_in}
use Rattle.cfa_tree.specs.Plain.{plain_promise}
use Rattle.cfa_vars.specs.Scopes.{in_scope}
use Rattle.cfa_defines.specs.ClassPromises.{raised_in, stops_all, raise_of}
use Rattle.cfa_defines.specs.SeenRaises.{seen_raise}
use Rattle.cfa_defines.proofs.class_promises.raises_from.Given as goal

-- no combination so far stops the promise, and what was raised with what those that are left raise is what all of them raise
abbrev pub invariant-loop-choice : goal.invariant-loop-choice
invariant-loop-choice g l =
    (list_any (λ choice. stops_all (raised_in (greater_in l.global l.local) (in_scope l.scopes) (plain_promise l.promise) choice)) (drop l.choice-index l.choices)
    ≡ list_any (λ choice. stops_all (raised_in (greater_in l.global l.local) (in_scope l.scopes) (plain_promise l.promise) choice)) l.choices)
    × (map seen_raise l.raises.items ++ filter_map (λ choice. raise_of (raised_in (greater_in l.global l.local) (in_scope l.scopes) (plain_promise l.promise) choice)) (drop l.choice-index l.choices)
    ≡ filter_map (λ choice. raise_of (raised_in (greater_in l.global l.local) (in_scope l.scopes) (plain_promise l.promise) choice)) l.choices)
    × (g.P.Patterns.shown l.pats ≡ g.P.Patterns.shown l.initial.pats)
