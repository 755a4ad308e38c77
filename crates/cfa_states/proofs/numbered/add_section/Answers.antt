use Rattle.std.proofs.Common.{◌≡◌, ◌∙◌, ◌+◌, ap, map, rules}
use Rattle.cfa_kinds.specs.Kinds.{promise_type}
use Rattle.cfa_states.specs.Kept.{seen_numbered}
use Rattle.cfa_scripts.specs.lemmas.Numbering.{one_numbered}
use Rattle.cfa_states.proofs.NumberedLemmas.{last_next}
use Rattle.cfa_states.proofs.numbered.add_section.Goals as goal

pub loop-index-preserved : goal.loop-index-preserved
loop-index-preserved c =
    let items = c.as_slice-promise-items.result.now in
    let i = c.loop-index.index in
    let p = c.promise-item.result in
    let so_far = c.loop-index.invariant in
    let added = c.in_ok-add_promise.ensures in
    let next : c.in_ok-number.number ≡ c.loop-index.number + 1 = search rules in (
      one_numbered c.args.bundle.now c.args.section.now.kind items i p c.promise_type-found.result c.loop-index.number c.in_ok-number.number
          (map seen_numbered c.loop-index.promises.items) (map seen_numbered c.add_promise.new.promises.items)
          c.loop-index-test.true c.promise-item.is (c.promise_type-found.ensures ∙ ap promise_type c.as_str.ensures) next added.promises
          ∙ so_far.0,
      (
        search rules,
        (
          λ repeats. added.guards (so_far.1.1.0 repeats),
          last_next items c.promise_type-found.result i p c.add_promise.new.promises.items c.loop-index-test.true c.promise-item.is added.last,
        ),
      ),
    )
