use Rattle.cfa_states.proofs.ChangingLemmas.{raise_changes, raise_stays}
use Rattle.cfa_states.specs.lemmas.Statuses.{statuses_agree, statuses_differ, flipped, flipped_true}
use Rattle.cfa_states.proofs.changing.is_raised.Goals as goal

pub returns-then-ne : goal.returns-then-ne
returns-then-ne c =
    raise_changes c.args.environment.now c.args.class.now c.args.to c.args.source.now c.status-status.result c.greater.result
    c.status-status.ensures c.greater.ensures (statuses_differ c.greater.result c.status-status.result (flipped_true _ c.if-ne.ensures))

pub returns : goal.returns
returns c =
    raise_stays c.args.environment.now c.args.class.now c.args.to c.args.source.now c.status-status.result c.greater.result _ c.is_sourced.result
    c.status-status.ensures c.greater.ensures (statuses_agree c.greater.result c.status-status.result (flipped _ c.if-ne.ensures)) c.source.ensures c.is_sourced.ensures
