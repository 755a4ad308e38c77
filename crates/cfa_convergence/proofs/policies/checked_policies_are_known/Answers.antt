use Rattle.std.proofs.Math.Logic.{∥∥₁_elim}
use Rattle.cfa_schema.specs.Seen.{tree_of}
use Rattle.cfa_convergence.proofs.PolicyLemmas.{known_policy, policy_prop}
use Rattle.cfa_convergence.proofs.policies.checked_policies_are_known.Goals as goal

pub returns : goal.returns
returns c =
    let policy = tree_of c.args.checked.now in
    ∥∥₁_elim c.policy.ensures.valid (policy_prop policy) (λ valid.
    ∥∥₁_elim c.policy.ensures.sourced (policy_prop policy) (λ sourced.
    known_policy policy valid sourced c.names_are_words.ensures.names c.named_blocks_are_there.ensures.nothing_refused c.named_blocks_are_there.ensures.agent_bundle
    c.served_bundles_stand.ensures.named c.served_bundles_stand.ensures.common c.names_are_words.ensures.one_line c.served_names_are_words.ensures.common
    c.served_names_are_words.ensures.sequence c.lines_are_counts.ensures.ids))
