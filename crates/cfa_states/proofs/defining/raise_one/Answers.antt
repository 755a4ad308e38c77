use Rattle.std.proofs.lemmas.Result.{on_ok_weaker}
use Rattle.cfa_states.specs.lemmas.Later.{here_ok, state_ok}
use Rattle.cfa_states.proofs.DefiningLemmas.{raised_within}
use Rattle.cfa_states.proofs.defining.raise_one.Goals as goal

pub returns-else-is_common-clause-stands : goal.returns-else-is_common-clause-stands
returns-else-is_common-clause-stands c =
    on_ok_weaker c.raise-else-is_common.result
    (λ keeps s h stands. raised_within s c.args.state.now c.args.activation.now c.raise-else-is_common.new.self c.args.is_common c.args.handed h c.if-is_common.false (keeps s h) stands)
    c.raise-else-is_common.ensures.keeps

pub returns-then-is_common-clause-later : goal.returns-then-is_common-clause-later
returns-then-is_common-clause-later c = state_ok c.args.state.now c.raise.new.self c.args.activation.now c.raise.result c.raise.ensures.later

pub returns-else-is_common-clause-later : goal.returns-else-is_common-clause-later
returns-else-is_common-clause-later c = here_ok c.args.state.now c.args.activation.now c.raise-else-is_common.new.self c.raise-else-is_common.result c.raise-else-is_common.ensures.later
