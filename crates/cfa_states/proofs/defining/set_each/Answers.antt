use Rattle.std.proofs.Common.{◌≡◌, ◌∙◌, sym, subst, List}
use Rattle.std.proofs.lemmas.List.{map-id}
use Rattle.std.proofs.lemmas.Iterator.Adapters.{YieldsList-from_vec}
use Rattle.std.proofs.lemmas.Iterator.Consumers.{YieldsList-end}
use Rattle.cfa_vars.specs.declared.scoping.Datum.{Datum}
use Rattle.cfa_states.specs.Kept.{Stands}
use Rattle.cfa_states.specs.Passes.{set_each}
use Rattle.cfa_states.specs.lemmas.Later.{are_same, are_then}
use Rattle.cfa_states.proofs.DefiningLemmas.{same_always, same_then, set_one_more}
use Rattle.cfa_states.proofs.defining.set_each.Goals as goal

pub loop-datum-init : goal.loop-datum-init
loop-datum-init c = ((same_always c.args.activation.now, are_same c.args.state.now c.args.activation.now), λ s h stands. stands)

pub loop-datum-preserved : goal.loop-datum-preserved
loop-datum-preserved c =
    let name = c.args.name.now in
    let start = c.args.activation.now in
    let now = c.loop-datum.activation in
    let same = c.loop-datum.invariant.0.0 in (
      (
        same_then start now c.set_variable.new.activation same c.in_ok-set_variable.ensures.same,
        are_then c.args.state.now c.loop-datum.state c.set_variable.new.state start now c.set_variable.new.activation c.loop-datum.invariant.0.1 c.in_ok-set_variable.ensures.later,
      ),
      λ s h stands.
          set_one_more s c.set_variable.new.state start now c.set_variable.new.activation name c.in_ok-copy.field-0 c.loop-datum.yielded c.in-Some.datum h same c.in_ok-copy.ensures
          (c.in_ok-set_variable.ensures.stands s (set_each start.path name c.loop-datum.yielded h) (c.loop-datum.invariant.1 s h stands)),
    )

pub returns : goal.returns
returns c =
    let began = c.into_iter-datum-iterator.ensures.into_iter_gives in
    let ended = YieldsList-end (YieldsList-from_vec {s = c.into_iter-datum-iterator.result} c.args.given.items began.0 (began.1 ∙ c.args.given.ok.0)) c.loop-datum.yielded c.loop-datum.datum-iterator c.loop-datum.yielded_by c.next.result c.next.new.self c.in-None.is c.next.ensures.steps in
    let all : c.loop-datum.yielded ≡ c.args.given.items = sym (map-id c.loop-datum.yielded) ∙ ended.0 in
    record {
      same = c.loop-datum.invariant.0.0;
      later = c.loop-datum.invariant.0.1;
      stands = λ s h stands.
          subst (λ (d : List Datum). Stands s c.loop-datum.state c.loop-datum.activation (set_each c.args.activation.now.path c.args.name.now d h)) all (c.loop-datum.invariant.1 s h stands);
    }
