use Rattle.std.specs.Prelude.{option_copied}
use Rattle.cfa_states.proofs.DefiningLemmas.{handed_one_more}
use Rattle.cfa_states.proofs.defining.hand_each.Goals as goal

pub loop-raise-preserved : goal.loop-raise-preserved
loop-raise-preserved c = λ s h stands.
    handed_one_more h c.args.activation.now.path c.args.guard (option_copied c.args.in_guard) c.loop-raise.yielded c.in-Some.raise c.loop-raise.handed.items c.push.new.self.items c.in_ok-hand.field-0
    (c.loop-raise.invariant s h stands) (c.in_ok-hand.ensures s h stands) c.in_ok-push.ensures.items
