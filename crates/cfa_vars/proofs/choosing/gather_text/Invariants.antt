use Rattle.std.proofs.Common.{◌≡◌, length}
use Rattle.std.specs.Str.{bytes_eq}
use Rattle.indexmap.specs.IndexMap.{insert_all}
use Rattle.cfa_vars.specs.References.{names_in}
use Rattle.cfa_vars.specs.Scopes.{in_scope}
use Rattle.cfa_vars.specs.Choices.{lists_named, seen_lists}
use Rattle.cfa_vars.proofs.choosing.gather_text.Given as goal
use denote.Shadow.{shadow}
use denote.Text.{Utf8}

-- what is gathered and what the rest gives is what the whole text gives
abbrev pub invariant-loop-found : goal.invariant-loop-found
invariant-loop-found l = (insert_all bytes_eq (seen_lists l.lists.entries) (lists_named (in_scope l.scopes) (names_in l.rest)) ≡ insert_all bytes_eq (seen_lists l.initial.lists.entries) (lists_named (in_scope l.scopes) (names_in l.text))) × shadow (Utf8 l.rest)

abbrev pub decreases-loop-found : goal.decreases-loop-found
decreases-loop-found l = length l.rest
