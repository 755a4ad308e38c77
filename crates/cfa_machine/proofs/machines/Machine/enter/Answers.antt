use Rattle.std.proofs.Common.{None, Option, Some, reverse, subst}
use Rattle.std.specs.Prelude.{IfSome}
use Rattle.cfa_schema.specs.Seen.{tree_of}
use Rattle.cfa_machine.specs.declared.frames.Frame.{Frame as Held}
use Rattle.cfa_machine.specs.Standing.{FrameHolds}
use Rattle.cfa_machine.specs.Tops.{TopEnters}
use Rattle.cfa_machine.proofs.AnswerLemmas.{ok_then}
use Rattle.cfa_machine.proofs.HeldLemmas.{pushed_came, pushed_holds, top_remembers, unpushed_came, unpushed_holds}
use Rattle.cfa_machine.proofs.machines.Machine.enter.Goals as goal

pub enter_top-requires-clause-holds : goal.enter_top-requires-clause-holds
enter_top-requires-clause-holds c =
    let m = c.args.self.now in
    top_remembers (tree_of m.checked.now) m.state m.top (reverse m.below.items) c.requires.holds.top

pub returns-in-None-clause-moved : goal.returns-in-None-clause-moved
returns-in-None-clause-moved c = λ s h stands.
    let m = c.args.self.now in
    let to : TopEnters (tree_of m.checked.now) m.state c.enter_top.new.state m.top c.enter_top.new.top None =
    subst (TopEnters (tree_of m.checked.now) m.state c.enter_top.new.state m.top c.enter_top.new.top) c.in-None.is c.in_ok-enter_top.ensures.entered in
    unpushed_came m c.requires.holds c.enter_top.new.top c.enter_top.new.state c.frames_stay_nested.ensures.longer c.frames_stay_nested.ensures.entered s h stands to

pub returns-in-None-clause-holds : goal.returns-in-None-clause-holds
returns-in-None-clause-holds c =
    let m = c.args.self.now in
    let to : TopEnters (tree_of m.checked.now) m.state c.enter_top.new.state m.top c.enter_top.new.top None =
    subst (TopEnters (tree_of m.checked.now) m.state c.enter_top.new.state m.top c.enter_top.new.top) c.in-None.is c.in_ok-enter_top.ensures.entered in
    unpushed_holds m c.requires.holds c.enter_top.new.top c.enter_top.new.state c.in_ok-enter_top.ensures.later to

pub returns-in-Some-clause-moved : goal.returns-in-Some-clause-moved
returns-in-Some-clause-moved c =
    let m = c.args.self.now in
    let to : TopEnters (tree_of m.checked.now) m.state c.enter_top.new.state m.top c.enter_top.new.top (Some c.in-Some.frame) =
    subst (TopEnters (tree_of m.checked.now) m.state c.enter_top.new.state m.top c.enter_top.new.top) c.in-Some.is c.in_ok-enter_top.ensures.entered in
    ok_then c.push.result c.push.ensures.pushed
    (λ on s h stands. pushed_came m c.requires.holds c.enter_top.new.top c.enter_top.new.state c.frames_stay_nested.ensures.longer c.frames_stay_nested.ensures.entered s h stands
    c.push.new.self c.in-Some.frame to on)

pub returns-in-Some-clause-holds : goal.returns-in-Some-clause-holds
returns-in-Some-clause-holds c =
    let m = c.args.self.now in
    let policy = tree_of m.checked.now in
    let to : TopEnters policy m.state c.enter_top.new.state m.top c.enter_top.new.top (Some c.in-Some.frame) =
    subst (TopEnters policy m.state c.enter_top.new.state m.top c.enter_top.new.top) c.in-Some.is c.in_ok-enter_top.ensures.entered in
    let now : FrameHolds policy c.enter_top.new.state c.in-Some.frame =
    subst (λ (made : Option Held). IfSome made (FrameHolds policy c.enter_top.new.state)) c.in-Some.is c.in_ok-enter_top.ensures.holds in
    ok_then c.push.result c.push.ensures.pushed
    (λ on. pushed_holds m c.requires.holds c.enter_top.new.top c.enter_top.new.state c.push.new.self c.in-Some.frame now c.in_ok-enter_top.ensures.later to on)
