use Rattle.std.proofs.Common.{◌≡◌, drop}
use Rattle.std.specs.List.{list_any}
use Rattle.cfa_vars.specs.Scopes.{in_scope}
use Rattle.cfa_defines.specs.OfTheCode.{has_text_too_long}
use Rattle.cfa_defines.proofs.combining.is_once_too_long.Given as goal

abbrev pub invariant-loop-choice : goal.invariant-loop-choice
invariant-loop-choice l = list_any (has_text_too_long (in_scope l.scopes) l.texts) (drop l.choice-index l.choices) ≡ list_any (has_text_too_long (in_scope l.scopes) l.texts) l.choices
