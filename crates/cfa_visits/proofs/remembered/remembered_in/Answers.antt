use Rattle.std.proofs.Common.{◌∙◌, length, map, ap, sym}
use Rattle.std.proofs.lemmas.List.{length-map}
use Rattle.cfa_states.specs.Kept.{seen_numbered}
use Rattle.cfa_visits.proofs.remembered.remembered_in.Goals as goal

pub returns-clause-rows : goal.returns-clause-rows
returns-clause-rows c = λ policy st a.
    let promises = c.in_ok-promises.promises.items in
    c.in_ok-rows.ensures policy (map seen_numbered promises) (length-map promises seen_numbered ∙ ap length (sym c.deref.ensures.value)) st a
