use Rattle.std.proofs.Common.{◌≡◌, ◌≤◌, ◌++◌, length}
use Rattle.std.specs.String.{string_bytes, string_len}
use Rattle.cfa_vars.specs.Scopes.{in_scope}
use Rattle.cfa_vars.specs.Expansion.{filled, first_unresolved}
use Rattle.cfa_vars.proofs.expanding.fill.Given as goal
use denote.Shadow.{shadow}
use denote.Text.{Utf8}

-- what is written and what the rest gives is what the whole text gives, and all that was read stands for something
abbrev pub invariant-loop-found : goal.invariant-loop-found
invariant-loop-found l =
    (string_bytes l.whole ++ filled (in_scope l.scopes) l.choice l.rest ≡ filled (in_scope l.scopes) l.choice l.text)
    × ((first_unresolved (in_scope l.scopes) l.choice l.rest ≡ first_unresolved (in_scope l.scopes) l.choice l.text)
    × ((string_len l.whole ≤ 65536) × shadow (Utf8 l.rest)))

abbrev pub decreases-loop-found : goal.decreases-loop-found
decreases-loop-found l = length l.rest
