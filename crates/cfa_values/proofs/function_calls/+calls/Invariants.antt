use Rattle.std.proofs.Common.{◌≡◌, drop, map}
use Rattle.cfa_tree.specs.Plain.{plain_value}
use Rattle.cfa_tree.specs.Tree.{value_trees}
use Rattle.cfa_values.specs.Seen.{seen_context}
use Rattle.cfa_values.specs.Refusals.{noted}
use Rattle.cfa_values.specs.Values.{arguments_refusals}
use Rattle.cfa_values.proofs.function_calls.+calls.Given as goal

-- what was noted and what is left is what is noted of all
abbrev pub invariant-note_arguments-loop-place : goal.invariant-note_arguments-loop-place
invariant-note_arguments-loop-place l =
    noted l.first (arguments_refusals (seen_context l.context) l.function l.place (value_trees (map plain_value (drop l.place l.arguments))))
    ≡ noted l.fn.first (arguments_refusals (seen_context l.context) l.function 0 (value_trees (map plain_value l.arguments)))
