use Rattle.std.proofs.Common.{◌≡◌, ◌∙◌, ◌≤◌, ℕ, List, Some, ap, arith, length, slice_get, subst, sym}
use denote.Ref.{Bor}
use Rattle.cfa_tree.specs.declared.blocks.Bundle.{Bundle}
use Rattle.cfa_machine.specs.Stacks.{seen_stack}
use Rattle.cfa_machine.proofs.AnswerLemmas.{got_is}
use Rattle.cfa_machine.proofs.RoundLemmas.{common_came, common_shared, got_past, name_shared, named_came, named_holds, none_begun}
use Rattle.cfa_machine.proofs.machines.Machine.begin.Goals as goal

pub returns-in-Some-clause-moved : goal.returns-in-Some-clause-moved
returns-in-Some-clause-moved c = λ s h stands.
    let m = c.args.self.now in
    let b = c.in-Some.bundle.now in
    let found : slice_get m.commons.items m.round ≡ Some b =
    subst (λ (xs : List (Bor Bundle)). slice_get xs m.round ≡ Some b) c.deref.ensures.value (got_is c.deref.result.now m.round (Some c.in-Some.bundle) c.in-Some.ensures.lookup) in
    common_came m c.requires.holds c.requires.none b found c.in_ok-self.field-0 s h stands
    (c.in_ok-self.ensures.begins s h stands.state (stands.clear (none_begun m c.requires.holds c.requires.none b found))
    (common_shared m c.requires.holds c.requires.none b found s stands.policy))
    (c.frames_stay_nested.ensures.moved s (seen_stack m) h stands.nested)

pub returns-in_ok-self-in-Some-get-clause-moved : goal.returns-in_ok-self-in-Some-get-clause-moved
returns-in_ok-self-in-Some-get-clause-moved c = λ s h stands.
    let m = c.args.self.now in
    let name = c.in-Some-get.name.now in
    let found : slice_get m.names m.at ≡ Some name =
    subst (λ (xs : List (List ℕ)). slice_get xs m.at ≡ Some name) c.as_slice.ensures (got_is c.as_slice.result.now m.at (Some c.in-Some-get.name) c.in-Some-get.ensures.lookup) in
    let past : length m.commons.items ≤ m.round =
    subst (λ (xs : List (Bor Bundle)). length xs ≤ m.round) c.deref.ensures.value (got_past c.deref.result.now m.round c.get.result c.get.ensures.lookup c.in_default.is) in
    let last : m.rounds ≡ 0 = omega (arith, c.if-self-gt0.false) in
    named_came m c.requires.holds c.requires.none past last name found c.in_ok-self-in-Some-get.field-0 c.named_top.new.state c.in_ok-self-in-Some-get.ensures.holds s h stands
    (c.in_ok-self-in-Some-get.ensures.begins s h stands.policy (c.requires.holds.depth ∙ ap length (sym stands.policy))
    (name_shared m c.requires.holds c.requires.none past last name found s stands.policy) stands.state)
    (c.frames_stay_nested.ensures.moved s (seen_stack m) h stands.nested)

pub returns-in_ok-self-in-Some-get-clause-holds : goal.returns-in_ok-self-in-Some-get-clause-holds
returns-in_ok-self-in-Some-get-clause-holds c =
    let m = c.args.self.now in
    let name = c.in-Some-get.name.now in
    let found : slice_get m.names m.at ≡ Some name =
    subst (λ (xs : List (List ℕ)). slice_get xs m.at ≡ Some name) c.as_slice.ensures (got_is c.as_slice.result.now m.at (Some c.in-Some-get.name) c.in-Some-get.ensures.lookup) in
    let past : length m.commons.items ≤ m.round =
    subst (λ (xs : List (Bor Bundle)). length xs ≤ m.round) c.deref.ensures.value (got_past c.deref.result.now m.round c.get.result c.get.ensures.lookup c.in_default.is) in
    let last : m.rounds ≡ 0 = omega (arith, c.if-self-gt0.false) in
    named_holds m c.requires.holds c.requires.none past last name found c.in_ok-self-in-Some-get.field-0 c.named_top.new.state c.in_ok-self-in-Some-get.ensures.holds
