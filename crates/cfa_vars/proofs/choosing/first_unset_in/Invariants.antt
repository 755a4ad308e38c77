use Rattle.std.proofs.Common.{◌≡◌, length}
use Rattle.cfa_vars.specs.References.{names_in}
use Rattle.cfa_vars.specs.Scopes.{in_scope}
use Rattle.cfa_vars.specs.Choices.{first_unset}
use Rattle.cfa_vars.proofs.choosing.first_unset_in.Given as goal
use denote.Shadow.{shadow}
use denote.Text.{Utf8}

abbrev pub invariant-loop-found : goal.invariant-loop-found
invariant-loop-found l = (first_unset (in_scope l.scopes) (names_in l.rest) ≡ first_unset (in_scope l.scopes) (names_in l.text)) × shadow (Utf8 l.rest)

abbrev pub decreases-loop-found : goal.decreases-loop-found
decreases-loop-found l = length l.rest
