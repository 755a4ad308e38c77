use Rattle.cfa_schema.specs.Seen.{tree_of}
use Rattle.cfa_drill.proofs.SettleLemmas.{accepted_settle}
use Rattle.cfa_drill.proofs.laws.accepted_agents_settle.Goals as goal

pub returns : goal.returns
returns c =
    accepted_settle (tree_of c.args.checked.now) c.checked_policies_are_known.ensures c.accepted_are_free.ensures c.free_agents_settle.ensures
