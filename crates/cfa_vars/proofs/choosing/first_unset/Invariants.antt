use Rattle.std.proofs.Common.{◌≡◌, drop}
use Rattle.std.specs.List.{flat_map}
use Rattle.cfa_vars.specs.References.{names_in}
use Rattle.cfa_vars.specs.Scopes.{in_scope}
use Rattle.cfa_vars.specs.Choices.{first_unset}
use Rattle.cfa_vars.proofs.choosing.first_unset.Given as goal

abbrev pub invariant-loop-text : goal.invariant-loop-text
invariant-loop-text l = first_unset (in_scope l.scopes) (flat_map names_in (drop l.text-index l.texts)) ≡ first_unset (in_scope l.scopes) (flat_map names_in l.texts)
