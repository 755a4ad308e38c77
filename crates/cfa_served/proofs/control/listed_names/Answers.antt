use Rattle.std.proofs.Common.{◌≡◌, ◌∙◌, ap, sym, map}
use Rattle.std.specs.List.{filter_map}
use Rattle.std.proofs.lemmas.Result.{IfOk-weaker}
use Rattle.cfa_tree.specs.Plain.{plain_value}
use Rattle.cfa_values.specs.Values.{known_named}
use Rattle.cfa_served.specs.Control.{names_listed}
use Rattle.cfa_values.specs.Kept.{seen_item}
use Rattle.cfa_values.specs.Seen.{shaped}
use Rattle.cfa_served.proofs.ListedLemmas.{names_of_list}
use Rattle.cfa_served.proofs.control.listed_names.Goals as goal

pub returns-in-List : goal.returns-in-List
returns-in-List c =
    let is = ap (λ s. names_listed (shaped s)) (sym c.in-List.is) ∙ ap names_listed c.shape_of.ensures in
    IfOk-weaker c.known_items.result (λ listed. map seen_item listed.items ≡ filter_map known_named (map plain_value c.in-List.items.now)) _
    (λ listed e. names_of_list listed.items c.in-List.items.now c.in-List.field-1 e ∙ is) c.known_items.ensures
