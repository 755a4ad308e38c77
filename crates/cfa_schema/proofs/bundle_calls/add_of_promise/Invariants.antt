use Rattle.std.proofs.Common.{◌≡◌, ◌++◌, drop, map}
use Rattle.std.specs.List.{filter_map}
use Rattle.cfa_tree.specs.Plain.{plain_attribute}
use Rattle.cfa_calls.specs.Cycles.{seen_call}
use Rattle.cfa_schema.specs.Valid.{call_in_attribute}
use Rattle.cfa_schema.proofs.bundle_calls.add_of_promise.Given as goal

-- the calls so far, and those of the attributes left
abbrev pub invariant-loop-attribute : goal.invariant-loop-attribute
invariant-loop-attribute l =
    map seen_call l.calls.items ++ filter_map (call_in_attribute l.caller) (map plain_attribute (drop l.attribute-index l.attribute-items))
    ≡ map seen_call l.fn.calls.items ++ filter_map (call_in_attribute l.caller) (map plain_attribute l.attribute-items)
