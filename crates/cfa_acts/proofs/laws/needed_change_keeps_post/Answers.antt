use Rattle.cfa_acts.proofs.Lasting.{lasting_post}
use Rattle.cfa_acts.proofs.laws.needed_change_keeps_post.Goals as goal

pub returns : goal.returns
returns c = lasting_post c.texts_tell_scripts.ensures
