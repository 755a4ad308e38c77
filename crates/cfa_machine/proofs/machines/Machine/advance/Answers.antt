use Rattle.std.proofs.Common.{Bool, true, false, subst, refl}
use Rattle.std.specs.Prelude.{Ok, reverse}
use Rattle.cfa_schema.specs.Seen.{tree_of}
use Rattle.cfa_machine.specs.Stacks.{seen_stack}
use Rattle.cfa_machine.specs.Tops.{TopSteps}
use Rattle.cfa_machine.proofs.AdvanceLemmas.{left_came, left_policy, left_then_holds, stays_came, stays_holds, stops_came_here}
use Rattle.cfa_machine.proofs.HeldLemmas.{top_remembers}
use Rattle.cfa_machine.proofs.machines.Machine.advance.Goals as goal

pub step_top-requires : goal.step_top-requires
step_top-requires g c =
    let m = c.args.self.now in
    record { holds = top_remembers (tree_of m.checked.now) m.state m.top (reverse m.below.items) c.requires.holds.top }

pub returns-in-Err : goal.returns-in-Err
returns-in-Err g c =
    let m = c.args.self.now in
    record {
      moved = λ s h stands.
          stops_came_here m c.requires.holds c.step_top.new.top c.step_top.new.state s h stands c.frames_stay_nested.ensures.longer
          (c.frames_stay_nested.ensures.moved s (seen_stack m) h stands.nested) (record m { state = c.step_top.new.state; top = c.step_top.new.top }) c.in-Err.stop c.in-Err.ensures.moved;
      holds = tt;
      policy = refl;
      patterns = c.in-Err.ensures.patterns;
    }

pub returns-in-Ok-true : goal.returns-in-Ok-true
returns-in-Ok-true g c =
    let m = c.args.self.now in
    let steps : TopSteps (tree_of m.checked.now) m.state c.step_top.new.state m.top c.step_top.new.top (Ok true) =
    subst (λ (b : Bool). TopSteps (tree_of m.checked.now) m.state c.step_top.new.state m.top c.step_top.new.top (Ok b)) c.in-Ok-true.field-0-test c.in-Ok-true.ensures.moved in
    record {
      moved = λ s h stands.
          stays_came m c.requires.holds c.step_top.new.top c.step_top.new.state s h stands c.frames_stay_nested.ensures.longer
          (c.frames_stay_nested.ensures.moved s (seen_stack m) h stands.nested) c.in_default.not-Nothing steps;
      holds = stays_holds m c.requires.holds c.step_top.new.top c.step_top.new.state (Ok true) c.in-Ok-true.ensures.later steps c.in-Ok-true.ensures.holds;
      policy = refl;
      patterns = c.in-Ok-true.ensures.patterns;
    }

pub returns-in-Ok-false : goal.returns-in-Ok-false
returns-in-Ok-false g c =
    let m = c.args.self.now in
    let steps : TopSteps (tree_of m.checked.now) m.state c.step_top.new.state m.top c.step_top.new.top (Ok false) =
    subst (λ (b : Bool). TopSteps (tree_of m.checked.now) m.state c.step_top.new.state m.top c.step_top.new.top (Ok b)) c.in-Ok-false.field-0-test c.in-Ok-false.ensures.moved in
    let still = c.in-Ok-false.ensures.leaves c.in-Ok-false.field-0-test in
    record {
      moved = λ s h stands.
          left_came m c.requires.holds c.step_top.new.top c.step_top.new.state c.leave.new.self still.0 still.1 c.leave.ensures c.in_default.not-Nothing steps s h stands
          c.frames_stay_nested.ensures.longer (c.frames_stay_nested.ensures.moved s (seen_stack m) h stands.nested);
      holds = left_then_holds m c.requires.holds c.step_top.new.top c.step_top.new.state c.leave.new.self still.0 still.1 c.leave.ensures;
      policy = left_policy m c.step_top.new.top c.step_top.new.state c.leave.new.self c.leave.ensures;
      patterns = c.in-Ok-false.ensures.patterns;
    }
