use Rattle.std.proofs.Common.{◌≡◌, ◌++◌, take, drop, map}
use Rattle.cfa_vars.specs.References.{literal, pieces}
use Rattle.cfa_vars.proofs.references.first_reference.Given as goal

-- no reference begins before the place
abbrev pub invariant-loop-place : goal.invariant-loop-place
invariant-loop-place l = map literal (take l.place l.text) ++ pieces (drop l.place l.text) ≡ pieces l.text
