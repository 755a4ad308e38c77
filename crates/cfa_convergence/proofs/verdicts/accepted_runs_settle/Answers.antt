use Rattle.cfa_schema.specs.Seen.{tree_of}
use Rattle.cfa_convergence.proofs.VerdictLemmas.{accepted_settle}
use Rattle.cfa_convergence.proofs.verdicts.accepted_runs_settle.Goals as goal

pub returns : goal.returns
returns c = accepted_settle (tree_of c.args.checked.now) c.checked_policies_are_known.ensures c.accepted_are_free.ensures c.free_runs_settle.ensures
