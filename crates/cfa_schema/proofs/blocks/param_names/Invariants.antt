use Rattle.std.proofs.Common.{◌≡◌, ◌++◌, drop, map}
use Rattle.cfa_tree.specs.Plain.{plain_named}
use Rattle.cfa_values.specs.Values.{name_in}
use Rattle.cfa_schema.proofs.blocks.param_names.Given as goal

-- the names so far and those that are left are all
abbrev pub invariant-loop-param : goal.invariant-loop-param
invariant-loop-param l = l.names ++ map name_in (map plain_named (drop l.param-index l.params)) ≡ map name_in (map plain_named l.params)
