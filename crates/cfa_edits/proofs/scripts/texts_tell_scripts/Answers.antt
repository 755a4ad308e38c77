use Rattle.cfa_edits.proofs.TextsTell.{scripts_tell}
use Rattle.cfa_edits.proofs.scripts.texts_tell_scripts.Goals as goal

pub returns : goal.returns
returns c = scripts_tell
