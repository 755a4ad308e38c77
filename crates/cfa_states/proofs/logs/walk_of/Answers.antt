use Rattle.std.proofs.Common.{List, map, ap, ◌∙◌}
use Rattle.cfa_resolve.specs.declared.instances.Instance.{Instance}
use Rattle.cfa_states.specs.Logs.{visit_at}
use Rattle.cfa_states.proofs.RowLemmas.{walk_is}
use Rattle.cfa_states.proofs.logs.walk_of.Goals as goal

pub returns : goal.returns
returns c =
    walk_is c.log.inside.instances c.log.inside.rows.items c.log.inside.unsettled.items c.args.log c.from_vec.result c.in_ok-visits.visits c.from_vec-2.result
    c.log.view_is (c.from_vec.ensures ∙ c.into_vec.ensures)
    (c.in_ok-visits.ensures ∙ ap (λ (xs : List Instance). map (visit_at xs) c.log.inside.rows.items) c.as_slice.ensures) c.from_vec-2.ensures
