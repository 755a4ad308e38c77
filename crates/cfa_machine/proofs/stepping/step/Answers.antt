use Rattle.std.proofs.Common.{true, sym, subst}
use Rattle.std.specs.Prelude.{Ok}
use Rattle.cfa_schema.specs.Seen.{tree_of}
use Rattle.cfa_frames.specs.Moves.{frame_next}
use Rattle.cfa_machine.specs.Machines.{seen_frame}
use Rattle.cfa_machine.specs.declared.frames.Frame.{Frame as Held}
use Rattle.cfa_machine.specs.Standing.{FrameHolds}
use Rattle.cfa_machine.specs.Stepping.{StepCame}
use Rattle.cfa_machine.proofs.StepLemmas.{asked_came, asked_holds}
use Rattle.cfa_machine.proofs.stepping.step.Goals as goal

pub returns-in-Some-clause-moved : goal.returns-in-Some-clause-moved
returns-in-Some-clause-moved g c = λ s h same stands.
    let frame = c.args.frame.now in
    subst (λ (f : Held). StepCame s h frame f c.args.state.now (Ok true) (frame_next s (seen_frame frame) h)) (sym c.ask.ensures)
    (asked_came s h frame c.args.state.now c.in-Some.visit c.in-Some.ensures c.requires.idle stands)

pub returns-in-Some-clause-holds : goal.returns-in-Some-clause-holds
returns-in-Some-clause-holds g c =
    let frame = c.args.frame.now in
    let policy = tree_of c.args.checked.now in
    subst (λ (f : Held). FrameHolds policy c.args.state.now f) (sym c.ask.ensures)
    (asked_holds policy c.args.state.now frame c.in-Some.visit c.in-Some.ensures c.requires.holds)
