use Rattle.std.proofs.Common.{◌∙◌, ap, map, arith}
use Rattle.cfa_kinds.specs.Kinds.{promise_type}
use Rattle.cfa_scripts.specs.Walking.{seen_numbered}
use Rattle.cfa_scripts.specs.lemmas.Numbering.{one_numbered}
use Rattle.cfa_scripts.proofs.numbering.add_section.Goals as goal

pub loop-promise-preserved : goal.loop-promise-preserved
loop-promise-preserved c =
    let counted = c.loop-promise.invariant.1 in
    let next = c.in_ok-number.ensures in
    let below = rw c.as_slice-promise-items.ensures at c.loop-promise-test.true in
    let is = rw c.as_slice-promise-items.ensures at c.promise-item.is in (
      one_numbered c.args.bundle.now c.args.section.now.kind c.args.section.now.promises c.loop-promise.promise-index c.promise-item.result c.promise_type-known.result c.loop-promise.number c.in_ok-number.number
          (map seen_numbered c.loop-promise.promises.items) (map seen_numbered c.add_promise.new.promises.items) below is
          (c.promise_type-known.ensures ∙ ap promise_type c.as_str.ensures) next c.in_ok-add_promise.ensures
          ∙ c.loop-promise.invariant.0,
      omega (arith, counted, next),
    )
