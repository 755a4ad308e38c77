use Rattle.std.proofs.Common.{◌≡◌, drop}
use Rattle.cfa_vars.specs.Scopes.{in_scope}
use Rattle.cfa_defines.specs.OwnTexts.{first_lacking}
use Rattle.cfa_defines.proofs.combining.first_lacking.Given as goal

abbrev pub invariant-loop-read : goal.invariant-loop-read
invariant-loop-read l = first_lacking (in_scope l.scopes) (drop l.read-index l.reads) ≡ first_lacking (in_scope l.scopes) l.reads
