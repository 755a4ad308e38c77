use Rattle.std.proofs.Math.Logic.{∥∥₁_elim}
use Rattle.cfa_schema.specs.Seen.{tree_of}
use Rattle.cfa_visits.proofs.FactLemmas.{counted_ids, counted_ids_prop}
use Rattle.cfa_visits.proofs.facts.ids_are_counted.Goals as goal

pub returns : goal.returns
returns c =
    let policy = tree_of c.args.checked.now in
    ∥∥₁_elim c.policy.ensures.sourced (counted_ids_prop policy) (counted_ids policy c.served_bundles_stand.ensures.named c.lines_are_counts.ensures.ids)
