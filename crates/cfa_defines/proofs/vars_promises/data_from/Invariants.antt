use Rattle.std.proofs.Common.{◌≡◌, ◌++◌, drop}
use Rattle.std.specs.List.{list_any, filter_map}
use Rattle.cfa_tree.specs.Plain.{plain_promise}
use Rattle.cfa_vars.specs.Scopes.{in_scope}
use Rattle.cfa_defines.specs.VarsPromises.{given_in, is_too_long, datum_in}
use Rattle.cfa_defines.proofs.vars_promises.data_from.Given as goal

-- no combination so far is too long, and what was set with what those that are left set is what all of them set
abbrev pub invariant-loop-choice : goal.invariant-loop-choice
invariant-loop-choice l =
    (list_any (λ choice. is_too_long (given_in (in_scope l.scopes) (plain_promise l.promise) choice)) (drop l.choice-index l.choices)
    ≡ list_any (λ choice. is_too_long (given_in (in_scope l.scopes) (plain_promise l.promise) choice)) l.choices)
    × (l.set.items ++ filter_map (λ choice. datum_in (given_in (in_scope l.scopes) (plain_promise l.promise) choice)) (drop l.choice-index l.choices)
    ≡ filter_map (λ choice. datum_in (given_in (in_scope l.scopes) (plain_promise l.promise) choice)) l.choices)
