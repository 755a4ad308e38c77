use Rattle.std.proofs.Common.{◌∙◌, ap, sym, map}
use Rattle.cfa_tree.specs.Plain.{plain_value}
use Rattle.cfa_tree.specs.Tree.{value_trees}
use Rattle.cfa_defines.proofs.ReadLemmas.{arguments_of_call}
use Rattle.cfa_defines.proofs.reads.arguments_of.Goals as goal

pub returns-in-Call : goal.returns-in-Call
returns-in-Call c =
    ap (λ vs. value_trees (map plain_value vs)) c.as_slice.ensures.value
    ∙ sym (arguments_of_call c.args.value.now c.in-Call.field-0 c.in-Call.arguments c.in-Call.field-2 c.in-Call.is)
