use Rattle.std.proofs.Common.{◌∙◌, ap, sym}
use Rattle.std.specs.Prelude.{◌==◌}
use Rattle.cfa_values.specs.Seen.{shaped}
use Rattle.cfa_values.specs.Values.{is_empty_list}
use Rattle.cfa_values.proofs.ValueLemmas.{counted}
use Rattle.cfa_values.proofs.lists.is_empty_list.Goals as goal

pub returns-in-List : goal.returns-in-List
returns-in-List c =
    c.is_empty.ensures ∙ ap (λ n. n == 0) (sym (counted c.in-List.items.now))
    ∙ ap is_empty_list (sym (ap shaped c.in-List.is) ∙ c.shape_of.ensures)
