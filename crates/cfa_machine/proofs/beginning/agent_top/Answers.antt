use Rattle.std.proofs.Common.{[], ◌∷◌, Option, subst, sym}
use Rattle.std.specs.Prelude.{IfSome}
use Rattle.cfa_statuses.specs.declared.levels.Status.TheVariants.{Yes}
use Rattle.cfa_tree.specs.Tree.{BlockTree}
use Rattle.cfa_states.specs.declared.activations.Activation.{Activation}
use Rattle.cfa_states.specs.History.{Begun, History}
use Rattle.cfa_states.specs.Kept.{IsOf, Keeps, Stands}
use Rattle.cfa_states.specs.Views.{Setting}
use Rattle.cfa_machine.specs.declared.frames.Frame.{Frame as Held}
use Rattle.cfa_machine.specs.declared.tops.Top.TheVariants as tops
use Rattle.cfa_machine.specs.Beginning.{AgentBegins}
use Rattle.cfa_visits.specs.Bundles.{AreCounted, seen_bundle}
use Rattle.cfa_machine.specs.Standing.{FrameHolds}
use Rattle.cfa_visits.specs.lemmas.Served.{found_name}
use Rattle.cfa_machine.proofs.BeginLemmas.{agent_begins}
use Rattle.cfa_machine.proofs.HoldLemmas.{fresh_holds}
use Rattle.cfa_machine.proofs.beginning.agent_top.Goals as goal

pub returns-clause-begins : goal.returns-clause-begins
returns-clause-begins c = λ s h deep found shared keeps.
    let name = c.args.name.now in
    let block : BlockTree = seen_bundle c.args.bundle.now in
    let a = c.in-Some.activation in
    let st' = c.of_sequence.new.state in
    let of : IsOf name name Yes a = subst (λ (made : Option Activation). IfSome made (IsOf name name Yes)) c.in-Some.is c.in_ok-of_sequence.ensures.is_of in
    let stands : (s : Setting) (h : History) → Keeps s c.args.state.now h → Stands s st' a (Begun name [] ∷ h) =
    subst (λ (made : Option Activation). IfSome made (λ b. (s : Setting) (h : History) → Keeps s c.args.state.now h → Stands s st' b (Begun name [] ∷ h)))
    c.in-Some.is c.in_ok-of_sequence.ensures.stands in
    subst (λ (f : Held). AgentBegins s name block (tops.Agent f) st' h) (sym c.fresh_frame.ensures)
    (agent_begins s h name block c.args.depth a c.in_ok-made.made st' deep (found_name s.policy name block found) of c.in_ok-made.ensures.promises (stands s h keeps))

pub returns-clause-holds : goal.returns-clause-holds
returns-clause-holds c = λ policy counted found.
    let st' = c.of_sequence.new.state in
    subst (FrameHolds policy st') (sym c.fresh_frame.ensures)
    (fresh_holds policy st' c.args.depth c.in-Some.activation c.in_ok-made.made (c.in_ok-made.ensures.rows policy st' c.in-Some.activation) c.in_ok-made.ensures.guards
    (subst AreCounted (sym c.in_ok-made.ensures.promises) (counted c.args.name.now (seen_bundle c.args.bundle.now) found)))
