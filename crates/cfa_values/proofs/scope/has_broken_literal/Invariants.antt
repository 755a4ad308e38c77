use Rattle.std.proofs.Common.{◌≡◌, drop, map}
use Rattle.cfa_vars.specs.References.{literal}
use Rattle.cfa_values.specs.Scope.{has_broken_reference}
use Rattle.cfa_values.proofs.scope.has_broken_literal.Given as goal

abbrev pub invariant-loop-place : goal.invariant-loop-place
invariant-loop-place l = has_broken_reference (map literal (drop l.place l.text)) ≡ has_broken_reference (map literal l.text)
