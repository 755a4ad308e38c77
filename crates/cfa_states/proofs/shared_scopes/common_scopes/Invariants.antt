use Rattle.std.proofs.Common.{◌≡◌, drop, map, []}
use Rattle.cfa_vars.specs.Shared.{begun_each}
use Rattle.cfa_states.proofs.SharedLemmas.{held_name}
use Rattle.cfa_states.proofs.shared_scopes.common_scopes.Given as goal

-- the scopes so far, and those of the bundles left
abbrev pub invariant-loop-bundle : goal.invariant-loop-bundle
invariant-loop-bundle l =
    begun_each l.scopes (map held_name (drop l.bundle-index l.bundle-items)) ≡ begun_each [] (map held_name l.bundle-items)
