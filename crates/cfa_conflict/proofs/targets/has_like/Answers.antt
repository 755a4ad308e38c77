use Rattle.std.proofs.Common.{◌-◌, sym, ◌∙◌, arith}
use Rattle.std.proofs.lemmas.Bool.{not-false}
use Rattle.cfa_conflict.proofs.LikeLemmas.{like_at}
use Rattle.cfa_conflict.proofs.targets.has_like.Goals as goal

pub returns-then-are_same_acts : goal.returns-then-are_same_acts
returns-then-are_same_acts c = λ _.
    like_at c.args.instances.now c.args.rows.now c.args.target.now c.args.place (c.loop-i.i - 1) _ c.acts_at-acts.result.now c.acts_at.result.now
    (omega arith) (not-false _ (sym c.ne.ensures ∙ c.if-ne.false)) c.acts_at-acts.ensures c.acts_at.ensures (sym c.are_same_acts.ensures ∙ c.if-are_same_acts.true)
