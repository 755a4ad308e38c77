use Rattle.std.proofs.Common.{length, sym, ap, ◌∙◌}
use Rattle.cfa_tree.specs.Repeats.{guard_before}
use Rattle.cfa_tree.proofs.RepeatLemmas.{guard_behind}
use Rattle.cfa_tree.proofs.guarded.GuardedPromises.with.Goals as goal

pub invariant_of-result : goal.invariant_of-result
invariant_of-result c = record {
  in_step = λ _. sym (ap (λ ps. guard_before ps (length ps)) c.in_ok-with.ensures
      ∙ (guard_behind c.args.self.promises _ ∙ c.in_ok-share.ensures));
}
