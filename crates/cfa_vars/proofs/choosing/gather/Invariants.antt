use Rattle.std.proofs.Common.{◌≡◌, drop}
use Rattle.std.specs.List.{flat_map}
use Rattle.std.specs.Str.{bytes_eq}
use Rattle.indexmap.specs.IndexMap.{insert_all}
use Rattle.cfa_vars.specs.References.{names_in}
use Rattle.cfa_vars.specs.Scopes.{in_scope}
use Rattle.cfa_vars.specs.Choices.{lists_named, lists_among, seen_lists}
use Rattle.cfa_vars.proofs.choosing.gather.Given as goal

abbrev pub invariant-loop-text : goal.invariant-loop-text
invariant-loop-text l = insert_all bytes_eq (seen_lists l.lists.entries) (lists_named (in_scope l.scopes) (flat_map names_in (drop l.text-index l.texts))) ≡ lists_among (in_scope l.scopes) (flat_map names_in l.texts)
