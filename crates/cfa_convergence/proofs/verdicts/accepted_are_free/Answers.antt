use Rattle.cfa_schema.specs.Seen.{tree_of}
use Rattle.cfa_convergence.proofs.VerdictLemmas.{accepted_free}
use Rattle.cfa_convergence.proofs.verdicts.accepted_are_free.Goals as goal

pub returns : goal.returns
returns c =
    accepted_free c.keys_tell_works.ensures (record {
      together = c.raises_lie_together.ensures;
      same = c.instances_are_same.ensures;
      keyed = c.instances_are_keyed.ensures;
      lines = c.keys_are_lines.ensures;
      firsts = c.raises_have_first.ensures;
      traced = c.unsettled_are_maybe.ensures;
    }) (tree_of c.args.checked.now) c.checked_policies_are_known.ensures
