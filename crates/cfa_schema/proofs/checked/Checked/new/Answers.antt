use Rattle.std.proofs.Common.{refl, ◌∙◌, ap, map}
use Rattle.cfa_tree.specs.Plain.{plain_block}
use Rattle.cfa_served.specs.Served.{minutes_in, minutes_of, or_one}
use Rattle.cfa_schema.specs.Seen.{tree_of}
use Rattle.cfa_schema.proofs.checked.Checked.new.Goals as goal

pub returns : goal.returns
unfolding tree_of
returns c = refl

pub invariant_of-result-clause-timed : goal.invariant_of-result-clause-timed
unfolding minutes_of
invariant_of-result-clause-timed c =
    c.agent_minutes-minutes.ensures
    ∙ ap (λ agent. or_one (minutes_in agent)) c.body-control.ensures
    ∙ ap (λ blocks. minutes_of (map plain_block blocks)) c.as_slice.ensures
