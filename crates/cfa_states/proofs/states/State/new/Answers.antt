use Rattle.std.proofs.Common.{refl, None}
use Rattle.cfa_schema.specs.Seen.{tree_of}
use Rattle.cfa_states.proofs.KeptLemmas.{keeps_first}
use Rattle.cfa_states.proofs.states.State.new.Goals as goal

pub returns-clause-keeps : goal.returns-clause-keeps
returns-clause-keeps c =
    let first = c.in_ok-new.ensures in
    keeps_first (record { policy = tree_of c.args.checked.now; classes = c.args.classes.now })
    (record { environment = c.in_ok-new.field-0; shared = c.in_ok-shared_scopes.field-0; left = 1000000; calls = None; log = c.first_log.result; changes = 0 })
    first.statuses first.no_source first.no_mark
    c.in_ok-shared_scopes.ensures refl refl c.args.is_logged c.first_log.ensures
