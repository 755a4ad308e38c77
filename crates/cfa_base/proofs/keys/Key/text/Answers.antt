use Rattle.cfa_base.proofs.KeyLemmas.{key_is_text}
use Rattle.cfa_base.proofs.keys.Key.text.Goals as goal

pub unreachable-requires : goal.unreachable-requires
unreachable-requires c = c.in-Err.ensures.cases.0 (key_is_text c.self.inside.digits c.self.invariant)
