use Rattle.std.proofs.Common.{◌≡◌, length}
use Rattle.cfa_vars.specs.Scopes.{in_scope}
use Rattle.cfa_vars.specs.Expansion.{first_unresolved}
use Rattle.cfa_vars.proofs.expanding.first_unresolved.Given as goal
use denote.Shadow.{shadow}
use denote.Text.{Utf8}

abbrev pub invariant-loop-found : goal.invariant-loop-found
invariant-loop-found l = (first_unresolved (in_scope l.scopes) l.choice l.rest ≡ first_unresolved (in_scope l.scopes) l.choice l.text) × shadow (Utf8 l.rest)

abbrev pub decreases-loop-found : goal.decreases-loop-found
decreases-loop-found l = length l.rest
