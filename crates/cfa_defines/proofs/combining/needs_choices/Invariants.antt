use Rattle.std.proofs.Common.{◌≡◌, drop}
use Rattle.std.specs.List.{list_any}
use Rattle.cfa_vars.specs.Scopes.{in_scope}
use Rattle.cfa_defines.specs.OfTheCode.{needs_choice}
use Rattle.cfa_defines.proofs.combining.needs_choices.Given as goal

abbrev pub invariant-loop-read : goal.invariant-loop-read
invariant-loop-read l = list_any (needs_choice (in_scope l.scopes)) (drop l.read-index l.reads) ≡ list_any (needs_choice (in_scope l.scopes)) l.reads
