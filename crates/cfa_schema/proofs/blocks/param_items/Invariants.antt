use Rattle.std.proofs.Common.{◌≡◌, ◌++◌, drop, map}
use Rattle.cfa_tree.specs.Plain.{plain_named}
use Rattle.cfa_values.specs.Kept.{seen_item}
use Rattle.cfa_schema.proofs.blocks.param_items.Given as goal

-- the parameters so far and those that are left are all
abbrev pub invariant-loop-param : goal.invariant-loop-param
invariant-loop-param l = map seen_item l.items.items ++ map plain_named (drop l.param-index l.params) ≡ map plain_named l.params
