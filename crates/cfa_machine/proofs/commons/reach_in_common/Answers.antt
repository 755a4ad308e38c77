use Rattle.std.proofs.Common.{◌∷◌, ℕ, true, subst}
use Rattle.std.specs.Prelude.{Ok}
use Rattle.cfa_frames.specs.Moves.{type_next}
use Rattle.cfa_states.specs.Kept.{seen_numbered}
use Rattle.cfa_machine.specs.Commons.{CommonCame, seen_common}
use Rattle.cfa_visits.specs.lemmas.Types.{is_other_type, is_same_type, types_agree, types_differ}
use Rattle.cfa_machine.proofs.QuietLemmas.{common_passed, common_reached, common_stopped, not_false, not_true, one_more}
use Rattle.cfa_machine.proofs.commons.reach_in_common.Goals as goal

pub returns-then-ne-clause-moved : goal.returns-then-ne-clause-moved
returns-then-ne-clause-moved g c = λ policy s depth h types same stands is.
    let common = c.args.common.now in
    let p = c.index-promise.result.now in
    let other = is_other_type c.args.kind (seen_numbered p).type (types_differ (seen_numbered p).type c.args.kind (not_true _ c.if-ne.ensures)) in
    subst (λ (n : ℕ). CommonCame s depth h (record common { place = n }) c.args.state.now (Ok true) (type_next s (c.args.kind ∷ types) (seen_common depth common).promises (seen_common depth common) h))
    (one_more common.place)
    (common_passed s depth h common p c.requires.place c.index-promise.ensures c.args.state.now c.args.kind types stands other)

pub returns-in-Err-clause-moved : goal.returns-in-Err-clause-moved
returns-in-Err-clause-moved g c = λ policy s depth h types same stands is.
    let common = c.args.common.now in
    let p = c.index-promise.result.now in
    let its = is_same_type c.args.kind (seen_numbered p).type (types_agree (seen_numbered p).type c.args.kind (not_false _ c.if-ne.ensures)) in
    common_stopped s depth h common p c.requires.place c.index-promise.ensures policy c.args.state.now c.reach_quietly.new.state c.reach_quietly.new.activation c.guard_status-guard.result
    c.args.kind types its (c.guard_status-guard.ensures.kept s h stands) same stands (record common { activation = c.reach_quietly.new.activation }) c.in-Err.stop (c.in-Err.ensures.reached policy)

pub returns-in-Ok-clause-moved : goal.returns-in-Ok-clause-moved
returns-in-Ok-clause-moved g c = λ policy s depth h types same stands is.
    let common = c.args.common.now in
    let p = c.index-promise.result.now in
    let its = is_same_type c.args.kind (seen_numbered p).type (types_agree (seen_numbered p).type c.args.kind (not_false _ c.if-ne.ensures)) in
    subst (λ (n : ℕ). CommonCame s depth h (record common { activation = c.reach_quietly.new.activation; place = n }) c.reach_quietly.new.state (Ok true)
    (type_next s (c.args.kind ∷ types) (seen_common depth common).promises (seen_common depth common) h))
    (one_more common.place)
    (common_reached s depth h common p c.requires.place c.index-promise.ensures policy c.args.state.now c.reach_quietly.new.state c.reach_quietly.new.activation c.guard_status-guard.result
    c.args.kind types its (c.guard_status-guard.ensures.kept s h stands) same stands (c.in-Ok.ensures.reached policy))
