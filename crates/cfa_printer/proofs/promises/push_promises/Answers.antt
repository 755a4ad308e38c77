use Rattle.std.proofs.Common.{◌≡◌, ◌<◌, List, length, get_or, subst}
use Rattle.cfa_tree.specs.declared.promises.Promise.{Promise}
use Rattle.cfa_printer.proofs.PromiseTexts.{promise_turn}
use Rattle.cfa_printer.proofs.promises.push_promises.Goals as goal

pub loop-i-preserved : goal.loop-i-preserved
loop-i-preserved c =
    let x : Promise = c.promise-item.result in
    let same = c.as_slice-promise-items.ensures in
    promise_turn _ _ _ _ c.args.promises.now c.loop-i.i x
    (subst (λ (items : List Promise). c.loop-i.i < length items) same c.loop-i-test.true)
    (subst (λ (items : List Promise). x ≡ get_or items c.loop-i.i x) same c.promise-item.is)
    c.in_ok-push_line_above.ensures c.in_ok-push_promise.ensures c.loop-i.invariant
