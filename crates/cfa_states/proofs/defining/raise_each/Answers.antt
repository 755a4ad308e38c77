use Rattle.std.proofs.Common.{◌≡◌, ◌∙◌, sym, subst, List}
use Rattle.std.proofs.lemmas.List.{map-id}
use Rattle.std.proofs.lemmas.Iterator.Adapters.{YieldsList-from_vec}
use Rattle.std.proofs.lemmas.Iterator.Consumers.{YieldsList-end}
use Rattle.cfa_states.specs.declared.defining.Handed.{Handed}
use Rattle.cfa_states.specs.Kept.{Stands, home_of}
use Rattle.cfa_states.specs.Defining.{raise_handed, place_of}
use Rattle.cfa_states.specs.lemmas.Later.{are_same, are_then}
use Rattle.cfa_states.proofs.DefiningLemmas.{same_always, same_then, raised_one_more}
use Rattle.cfa_states.proofs.defining.raise_each.Goals as goal

pub loop-one-init : goal.loop-one-init
loop-one-init c = ((same_always c.args.activation.now, are_same c.args.state.now c.args.activation.now), λ s h stands. stands)

pub loop-one-preserved : goal.loop-one-preserved
loop-one-preserved c =
    let start = c.args.activation.now in
    let now = c.loop-one.activation in
    let place = place_of c.args.is_common (home_of start) in
    let same = c.loop-one.invariant.0.0 in (
      (
        same_then start now c.raise_one.new.activation same c.in_ok-raise_one.ensures.same,
        are_then c.args.state.now c.loop-one.state c.raise_one.new.state start now c.raise_one.new.activation c.loop-one.invariant.0.1 c.in_ok-raise_one.ensures.later,
      ),
      λ s h stands.
          raised_one_more s c.args.is_common c.raise_one.new.state start now c.raise_one.new.activation c.loop-one.yielded c.in-Some.one h same
          (c.in_ok-raise_one.ensures.stands s (raise_handed place c.loop-one.yielded h) (c.loop-one.invariant.1 s h stands)),
    )

pub returns : goal.returns
returns c =
    let place = place_of c.args.is_common (home_of c.args.activation.now) in
    let began = c.into_iter-one-iterator.ensures.into_iter_gives in
    let ended = YieldsList-end (YieldsList-from_vec {s = c.into_iter-one-iterator.result} c.args.handed.items began.0 (began.1 ∙ c.args.handed.ok.0)) c.loop-one.yielded c.loop-one.one-iterator c.loop-one.yielded_by c.next.result c.next.new.self c.in-None.is c.next.ensures.steps in
    let all : c.loop-one.yielded ≡ c.args.handed.items = sym (map-id c.loop-one.yielded) ∙ ended.0 in
    record {
      same = c.loop-one.invariant.0.0;
      later = c.loop-one.invariant.0.1;
      stands = λ s h stands.
          subst (λ (x : List Handed). Stands s c.loop-one.state c.loop-one.activation (raise_handed place x h)) all (c.loop-one.invariant.1 s h stands);
    }
