use Rattle.std.proofs.Common.{◌≡◌, ◌∙◌, List, ◌-◌, None, Some, ap, map, refl, subst, sym}
use Rattle.cfa_resolve.specs.declared.instances.Work.TheVariants.{Call}
use Rattle.cfa_schema.specs.Seen.{tree_of}
use Rattle.cfa_served.specs.Served.{bundle_of}
use Rattle.cfa_tree.specs.Plain.{plain_named}
use Rattle.cfa_tree.specs.Tree.{BlockTree, PolicyTree}
use Rattle.cfa_tree.specs.declared.blocks.Named.{Named}
use Rattle.cfa_states.specs.Tellers.{inner_path}
use Rattle.cfa_machine.specs.declared.frames.Frame.{Frame as Held}
use Rattle.cfa_machine.specs.Answering.{Begins}
use Rattle.cfa_visits.specs.Bundles.{AreCounted, seen_bundle}
use Rattle.cfa_visits.specs.Calling.{BeginsCall}
use Rattle.cfa_machine.specs.Standing.{FrameHolds}
use Rattle.cfa_visits.specs.lemmas.Calls.{unshared}
use Rattle.cfa_visits.specs.lemmas.Served.{found_name}
use Rattle.cfa_machine.proofs.AnswerLemmas.{bundle_begins, deepest_begins, is_next, missing_begins}
use Rattle.cfa_machine.proofs.HoldLemmas.{fresh_holds}
use Rattle.cfa_machine.proofs.answering.begin_bundle.Goals as goal

pub returns-then-depth-eq0-clause-begins : goal.returns-then-depth-eq0-clause-begins
returns-then-depth-eq0-clause-begins c = λ s h policy keeps.
    deepest_begins s c.args.depth c.args.instance.now c.args.status c.args.state.now h keeps c.args.name.now c.args.given.now
    (unshared (tree_of c.args.checked.now) s c.args.instance.now c.requires.names policy) c.if-depth-eq0.true

pub returns-in-None-clause-begins : goal.returns-in-None-clause-begins
returns-in-None-clause-begins c = λ s h policy keeps.
    let name = c.args.name.now in
    let none : bundle_of s.policy name ≡ None =
    ap (λ (p : PolicyTree). bundle_of p name) policy ∙ (ap (bundle_of (tree_of c.args.checked.now)) (sym c.as_str.ensures) ∙ sym c.in-None.ensures) in
    missing_begins s c.args.depth c.args.instance.now c.args.status c.args.state.now h keeps name c.args.given.now
    (unshared (tree_of c.args.checked.now) s c.args.instance.now c.requires.names policy) (c.args.depth - 1) (is_next c.args.depth c.if-depth-eq0.false)
    (bundle_of s.policy name) refl none

pub returns-in_ok-activation-in-Some-clause-begins : goal.returns-in_ok-activation-in-Some-clause-begins
returns-in_ok-activation-in-Some-clause-begins c = λ s h policy keeps.
    let name = c.args.name.now in
    let given = c.args.given.now in
    let path = inner_path c.args.instance.now in
    let block : BlockTree = seen_bundle c.in-Some.bundle.now in
    let made = c.in_ok-made-in-Some.made in
    let a = c.in_ok-activation-in-Some.activation in
    let st = c.args.state.now in
    let st' = c.begin_call.new.state in
    let here : bundle_of (tree_of c.args.checked.now) name ≡ Some block = ap (bundle_of (tree_of c.args.checked.now)) (sym c.as_str.ensures) ∙ sym c.in-Some.ensures in
    let some : bundle_of s.policy name ≡ Some block = ap (λ (p : PolicyTree). bundle_of p name) policy ∙ here in
    subst (λ (f : Held). Begins s c.args.depth c.args.instance.now c.args.status (Call name given) (Some f) st' h) (sym c.fresh_frame.ensures)
    (bundle_begins s c.args.depth c.args.instance.now c.args.status st h keeps name given
    (unshared (tree_of c.args.checked.now) s c.args.instance.now c.requires.names policy) (c.args.depth - 1) (is_next c.args.depth c.if-depth-eq0.false)
    (bundle_of s.policy name) refl block a made st' some (found_name (tree_of c.args.checked.now) name block here) c.in_ok-activation-in-Some.ensures.is_of c.in_ok-made-in-Some.ensures.promises
    (subst (λ (ps : List Named). BeginsCall path (map plain_named ps) given st st' a) c.as_slice-params.ensures c.in_ok-activation-in-Some.ensures.stands))

pub returns-in_ok-activation-in-Some-clause-holds : goal.returns-in_ok-activation-in-Some-clause-holds
returns-in_ok-activation-in-Some-clause-holds c =
    let policy = tree_of c.args.checked.now in
    let name = c.args.name.now in
    let block : BlockTree = seen_bundle c.in-Some.bundle.now in
    let made = c.in_ok-made-in-Some.made in
    let a = c.in_ok-activation-in-Some.activation in
    let st' = c.begin_call.new.state in
    let here : bundle_of policy name ≡ Some block = ap (bundle_of policy) (sym c.as_str.ensures) ∙ sym c.in-Some.ensures in
    subst (FrameHolds policy st') (sym c.fresh_frame.ensures)
    (fresh_holds policy st' (c.args.depth - 1) a made (c.in_ok-made-in-Some.ensures.rows policy st' a) c.in_ok-made-in-Some.ensures.guards
    (subst AreCounted (sym c.in_ok-made-in-Some.ensures.promises) (c.ids_are_counted.ensures name block here)))
