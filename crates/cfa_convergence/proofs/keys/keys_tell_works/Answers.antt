use Rattle.cfa_convergence.proofs.KeyLemmas.{keys_tell}
use Rattle.cfa_convergence.proofs.keys.keys_tell_works.Goals as goal

pub returns : goal.returns
returns c = keys_tell c.texts_tell_scripts.ensures
