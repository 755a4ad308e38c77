use Rattle.std.proofs.Common.{◌∙◌, ap}
use Rattle.cfa_served.specs.Control.{sequence_of}
use Rattle.cfa_schema.specs.Seen.{tree_of}
use Rattle.cfa_vars.specs.Shared.{begun_each}
use Rattle.cfa_states.proofs.SharedLemmas.{shared_begun_are}
use Rattle.cfa_states.proofs.shared_scopes.shared_scopes.Goals as goal

pub loop-name-init : goal.loop-name-init
loop-name-init c =
    let policy = tree_of c.args.checked.now in
    ap (begun_each c.in_ok-scopes.scopes) (c.as_slice-name-items.ensures ∙ c.in_ok-sequence.ensures)
    ∙ ap (λ scopes. begun_each scopes (sequence_of policy)) c.in_ok-scopes.ensures
    ∙ shared_begun_are policy
