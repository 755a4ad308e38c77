use Rattle.std.proofs.Common.{◌≡◌, length, not}
use Rattle.std.specs.List.{list_any}
use Rattle.cfa_vars.specs.References.{names_in}
use Rattle.cfa_values.proofs.scope.has_refused_name.Given as goal
use denote.Shadow.{shadow}
use denote.Text.{Utf8}

abbrev pub invariant-loop-found : goal.invariant-loop-found
invariant-loop-found g l = (list_any (λ name. not (g.A.Admits.admitted l.names name)) (names_in l.rest) ≡ list_any (λ name. not (g.A.Admits.admitted l.names name)) (names_in l.text)) × shadow (Utf8 l.rest)

abbrev pub decreases-loop-found : goal.decreases-loop-found
decreases-loop-found g l = length l.rest
