use Rattle.cfa_convergence.proofs.SettledLemmas.{unlisted_settled}
use Rattle.cfa_convergence.proofs.sources.unlisted_are_settled.Goals as goal

pub returns : goal.returns
returns c =
    unlisted_settled c.keys_tell_works.ensures c.raises_have_first.ensures c.unsettled_are_maybe.ensures c.instances_are_keyed.ensures
    c.keys_are_lines.ensures
