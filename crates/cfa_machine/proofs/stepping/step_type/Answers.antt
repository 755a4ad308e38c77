use Rattle.std.proofs.Common.{◌∷◌, ◌≤◌, ℕ, true, sym, subst}
use Rattle.std.specs.Prelude.{Ok}
use Rattle.cfa_frames.specs.Moves.{type_next}
use Rattle.cfa_machine.specs.Machines.{seen_frame}
use Rattle.cfa_machine.specs.declared.frames.Frame.{Frame as Held}
use Rattle.cfa_machine.specs.Stepping.{StepCame}
use Rattle.cfa_machine.proofs.StepLemmas.{next_type_came, past_length}
use Rattle.cfa_machine.proofs.stepping.step_type.Goals as goal

pub returns-then-frame-len-clause-moved : goal.returns-then-frame-len-clause-moved
returns-then-frame-len-clause-moved g c = λ s h types same stands is none.
    let frame = c.args.frame.now in
    subst (λ (f : Held). StepCame s h frame f c.args.state.now (Ok true) (type_next s (c.args.kind ∷ types) (seen_frame frame).promises (seen_frame frame) h))
    (sym c.next_type.ensures)
    (next_type_came s h frame c.args.state.now c.args.kind types stands is (past_length frame (subst (λ (n : ℕ). n ≤ frame.place) c.len.ensures c.if-frame-len.true)))
