use Rattle.std.proofs.Common.{◌∙◌, ap, sym, map}
use Rattle.cfa_tree.specs.Plain.{plain_value}
use Rattle.cfa_tree.specs.Tree.{list, call, value_trees}
use Rattle.cfa_tree.specs.lemmas.Rows.{plain_value-List, plain_value-Call}
use Rattle.cfa_values.proofs.shapes.shape_of.Goals as goal

pub returns-in-List : goal.returns-in-List
returns-in-List c =
    ap (λ vs. list (value_trees (map plain_value vs)) c.in-List.place) c.as_slice.ensures.value
    ∙ sym (plain_value-List c.in-List.items c.in-List.place) ∙ sym (ap plain_value c.in-List.is)

pub returns-in-Call : goal.returns-in-Call
returns-in-Call c =
    ap (λ n. call n (value_trees (map plain_value c.as_slice-in-Call.result.now)) c.in-Call.place) c.as_str-in-Call.ensures
    ∙ ap (λ vs. call c.in-Call.name (value_trees (map plain_value vs)) c.in-Call.place) c.as_slice-in-Call.ensures.value
    ∙ sym (plain_value-Call c.in-Call.name c.in-Call.arguments c.in-Call.place) ∙ sym (ap plain_value c.in-Call.is)
