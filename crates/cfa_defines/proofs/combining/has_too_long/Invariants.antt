use Rattle.std.proofs.Common.{◌≡◌, drop}
use Rattle.cfa_vars.specs.Scopes.{in_scope}
use Rattle.cfa_defines.specs.OfTheCode.{has_text_too_long}
use Rattle.cfa_defines.proofs.combining.has_too_long.Given as goal

abbrev pub invariant-loop-text : goal.invariant-loop-text
invariant-loop-text l = has_text_too_long (in_scope l.scopes) (drop l.text-index l.texts) l.choice ≡ has_text_too_long (in_scope l.scopes) l.texts l.choice
