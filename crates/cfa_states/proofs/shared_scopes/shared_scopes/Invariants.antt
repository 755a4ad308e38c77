use Rattle.std.proofs.Common.{◌≡◌, drop, map, []}
use Rattle.cfa_schema.specs.Seen.{tree_of}
use Rattle.cfa_vars.specs.Shared.{begun_each}
use Rattle.cfa_states.specs.Views.{shared_names}
use Rattle.cfa_states.proofs.shared_scopes.shared_scopes.Given as goal

-- the scopes so far, and those of the sequence that are left
abbrev pub invariant-loop-name : goal.invariant-loop-name
invariant-loop-name l = begun_each l.scopes (drop l.name-index l.name-items) ≡ map (λ name. (name, [])) (shared_names (tree_of l.checked))
