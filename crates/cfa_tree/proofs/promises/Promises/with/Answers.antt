use Rattle.std.proofs.Common.{◌≡◌, IsTrue, List, length, subst, sym}
use Rattle.cfa_tree.specs.declared.promises.Promise.{Promise}
use Rattle.cfa_tree.specs.Repeats.{guard_before}
use Rattle.cfa_tree.proofs.RepeatLemmas.{marked_more}
use Rattle.cfa_tree.proofs.promises.Promises.with.Goals as goal

pub invariant_of-result : goal.invariant_of-result
invariant_of-result c =
    let P : List Promise → Type 0 = λ ps. IsTrue c.args.repeats → c.args.promise.guard ≡ guard_before ps (length ps) in
    rw (c.in_ok-push.ensures.items, c.in_ok-push-2.ensures.items) (marked_more c.self.inside.items.items c.args.promise c.self.inside.repeats.items c.args.repeats c.self.invariant (subst P (sym c.self.view_is) c.requires))
