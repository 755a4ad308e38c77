use Rattle.std.proofs.Common.{◌<◌, ◌≤◌, length, map, take, subst, arith}
use Rattle.cfa_tree.specs.Plain.{plain_named}
use Rattle.cfa_states.specs.History.{History}
use Rattle.cfa_states.specs.Kept.{Stands}
use Rattle.cfa_states.specs.Passes.{bind}
use Rattle.cfa_states.proofs.DefiningLemmas.{same_then}
use Rattle.cfa_states.proofs.BindingLemmas.{bound_one_more, bind_past}
use Rattle.cfa_states.specs.lemmas.Later.{are_then}
use Rattle.cfa_states.proofs.binding.bind.Goals as goal

pub loop-place-preserved : goal.loop-place-preserved
loop-place-preserved c =
    let params = c.args.params.now in
    let given = c.args.given.now in
    let place = c.loop-place.place in
    let start = c.args.activation.now in
    let now = c.loop-place.activation in
    let after = c.set_variable.new.activation in
    let same = c.loop-place.invariant.0.0 in
    let within : place < length params = omega arith in
    let few : place < length given = omega arith in (
      (
        same_then start now after same c.in_ok-set_variable.ensures.same,
        are_then c.args.state.now c.loop-place.state c.set_variable.new.state start now after c.loop-place.invariant.0.1 c.in_ok-set_variable.ensures.later,
      ),
      λ s h stands.
          bound_one_more s c.set_variable.new.state start now after params given place c.index-params-place.result c.in_ok-copy.field-0 c.index-given-place.result c.in_ok-datum.datum h
          same within few c.index-params-place.is c.index-given-place.is c.in_ok-copy.ensures c.in_ok-datum.ensures
          (c.in_ok-set_variable.ensures.stands s (bind start.path (map plain_named (take place params)) given h) (c.loop-place.invariant.1 s h stands)),
    )

pub returns-then-place-given-clause-stands : goal.returns-then-place-given-clause-stands
returns-then-place-given-clause-stands c = λ s h stands.
    let past : length c.args.given.now ≤ c.loop-place.place = omega arith in
    subst (λ (k : History). Stands s c.loop-place.state c.loop-place.activation k)
    (bind_past c.args.activation.now.path c.args.params.now c.args.given.now c.loop-place.place h past) (c.loop-place.invariant.1 s h stands)
