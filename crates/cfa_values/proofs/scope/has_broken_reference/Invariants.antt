use Rattle.std.proofs.Common.{◌≡◌, length}
use Rattle.cfa_vars.specs.References.{pieces}
use Rattle.cfa_values.specs.Scope.{has_broken_reference}
use Rattle.cfa_values.proofs.scope.has_broken_reference.Given as goal
use denote.Shadow.{shadow}
use denote.Text.{Utf8}

abbrev pub invariant-loop-found : goal.invariant-loop-found
invariant-loop-found l = (has_broken_reference (pieces l.rest) ≡ has_broken_reference (pieces l.text)) × shadow (Utf8 l.rest)

abbrev pub decreases-loop-found : goal.decreases-loop-found
decreases-loop-found l = length l.rest
