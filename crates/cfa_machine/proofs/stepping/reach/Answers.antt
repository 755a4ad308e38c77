use Rattle.std.proofs.Common.{◌∙◌, ◌<◌, ◌∷◌, true, Option, length, sym, subst, refl}
use Rattle.std.specs.Prelude.{None, Ok}
use Rattle.std.proofs.lemmas.List.{get_or_default}
use Rattle.cfa_schema.specs.Seen.{tree_of}
use Rattle.cfa_frames.specs.Moves.{type_next}
use Rattle.cfa_states.specs.Kept.{RowHolds, seen_numbered}
use Rattle.cfa_states.specs.declared.remembering.Found.{Found}
use Rattle.cfa_machine.specs.Machines.{seen_frame}
use Rattle.cfa_machine.specs.declared.frames.Frame.{Frame as Held}
use Rattle.cfa_machine.specs.Standing.{FrameHolds}
use Rattle.cfa_machine.specs.Stepping.{StepCame}
use Rattle.cfa_visits.specs.lemmas.Remembered.{repeated_before, row_at}
use Rattle.cfa_visits.specs.lemmas.Types.{is_other_type, is_same_type, types_agree, types_differ}
use Rattle.cfa_machine.proofs.HoldLemmas.{reached_holds}
use Rattle.cfa_machine.proofs.QuietLemmas.{not_false, not_true}
use Rattle.cfa_machine.proofs.StepLemmas.{counted_at, passed_came, reach_stopped, reached_came, rows_inside}
use Rattle.cfa_machine.proofs.stepping.reach.Goals as goal

pub returns-then-ne-clause-moved : goal.returns-then-ne-clause-moved
returns-then-ne-clause-moved g c = λ s h types same stands is none.
    let frame = c.args.frame.now in
    let p = c.index-promise.result.now in
    let other = is_other_type c.args.kind (seen_numbered p).type (types_differ (seen_numbered p).type c.args.kind (not_true _ c.if-ne.ensures)) in
    subst (λ (f : Held). StepCame s h frame f c.args.state.now (Ok true) (type_next s (c.args.kind ∷ types) (seen_frame frame).promises (seen_frame frame) h))
    (sym c.pass_by.ensures)
    (passed_came s h frame p c.requires.place c.index-promise.ensures c.args.state.now c.args.kind types stands other)

pub guard_known-known-requires : goal.guard_known-known-requires
guard_known-known-requires g c =
    let frame = c.args.frame.now in
    repeated_before frame.promises.items frame.place c.index-promise.result.now frame.before c.args.state.now frame.activation
    c.requires.holds.repeats c.requires.place c.index-promise.ensures c.requires.holds.before

pub reach_promise-requires-clause-id : goal.reach_promise-requires-clause-id
reach_promise-requires-clause-id g c =
    let frame = c.args.frame.now in
    counted_at frame.promises.items frame.place c.index-promise.result.now c.requires.place c.index-promise.ensures c.requires.holds.counted

pub reach_promise-requires-clause-kept : goal.reach_promise-requires-clause-kept
reach_promise-requires-clause-kept g c =
    let frame = c.args.frame.now in
    let policy = tree_of c.args.checked.now in
    let p = c.index-promise.result.now in
    let inside : frame.place < length frame.rows.items = rows_inside policy c.args.state.now frame c.requires.holds c.requires.place in
    let read = c.index_mut-kept.ensures.value ∙ get_or_default frame.rows.items frame.place c.index_mut-kept.result.now None inside in
    subst (λ (x : Option Found). RowHolds policy (seen_numbered p) x c.args.state.now frame.activation) (sym read)
    (row_at policy frame.promises.items frame.rows.items frame.place p c.args.state.now frame.activation c.requires.place c.index-promise.ensures c.requires.holds.rows)

pub returns-in-Err-clause-moved : goal.returns-in-Err-clause-moved
returns-in-Err-clause-moved g c = λ s h types same stands is none.
    let frame = c.args.frame.now in
    let policy = tree_of c.args.checked.now in
    let p = c.index-promise.result.now in
    let its = is_same_type c.args.kind (seen_numbered p).type (types_agree (seen_numbered p).type c.args.kind (not_false _ c.if-ne.ensures)) in
    reach_stopped s h frame p c.requires.place c.index-promise.ensures policy c.args.state.now c.reach_promise.new.state c.reach_promise.new.activation c.reach_promise.new.kept
    c.guard_known-known.result frame c.args.kind types c.in-Err.stop its c.guard_known-known.ensures.status same stands c.in-Err.ensures.reached

pub returns-in-Ok-clause-moved : goal.returns-in-Ok-clause-moved
returns-in-Ok-clause-moved g c = λ s h types same stands is none.
    let frame = c.args.frame.now in
    let policy = tree_of c.args.checked.now in
    let p = c.index-promise.result.now in
    let its = is_same_type c.args.kind (seen_numbered p).type (types_agree (seen_numbered p).type c.args.kind (not_false _ c.if-ne.ensures)) in
    subst (λ (f : Held). StepCame s h frame f c.reach_promise.new.state (Ok true) (type_next s (c.args.kind ∷ types) (seen_frame frame).promises (seen_frame frame) h))
    (sym c.note_reached.ensures)
    (reached_came s h frame p c.requires.place c.index-promise.ensures policy c.args.state.now c.reach_promise.new.state c.reach_promise.new.activation _ c.reach_promise.new.kept
    c.guard_known-known.result refl (rows_inside policy c.args.state.now frame c.requires.holds c.requires.place) none c.requires.idle
    c.args.kind types c.in-Ok.has_instances its c.guard_known-known.ensures.status same stands c.in-Ok.ensures.reached)

pub returns-in-Ok-clause-holds : goal.returns-in-Ok-clause-holds
returns-in-Ok-clause-holds g c =
    let frame = c.args.frame.now in
    let policy = tree_of c.args.checked.now in
    let p = c.index-promise.result.now in
    subst (λ (f : Held). FrameHolds policy c.reach_promise.new.state f)
    (sym c.note_reached.ensures)
    (reached_holds policy frame p c.requires.place c.index-promise.ensures c.args.state.now c.reach_promise.new.state c.reach_promise.new.activation _ c.reach_promise.new.kept
    c.guard_known-known.result refl c.in-Ok.ensures.later c.guard_known-known.ensures.now c.guard_known-known.ensures.status c.requires.idle c.requires.holds
    c.in-Ok.ensures.kept c.in-Ok.has_instances c.in-Ok.ensures.at)
