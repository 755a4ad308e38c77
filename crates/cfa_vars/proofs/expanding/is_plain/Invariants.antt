use Rattle.std.proofs.Common.{◌≡◌, ◌+◌, [], length}
use Rattle.cfa_vars.specs.Scopes.{in_scope}
use Rattle.cfa_vars.specs.Expansion.{filled, first_unresolved}
use Rattle.cfa_vars.proofs.expanding.is_plain.Given as goal
use denote.Shadow.{shadow}
use denote.Text.{Utf8}

-- what is left is the limit without what was read so far, all of which stands for something
abbrev pub invariant-loop-found : goal.invariant-loop-found
invariant-loop-found l =
    (length (filled (in_scope l.scopes) [] l.text) + l.left ≡ 65536 + length (filled (in_scope l.scopes) [] l.rest))
    × ((first_unresolved (in_scope l.scopes) [] l.rest ≡ first_unresolved (in_scope l.scopes) [] l.text)
    × shadow (Utf8 l.rest))

abbrev pub decreases-loop-found : goal.decreases-loop-found
decreases-loop-found l = length l.rest
