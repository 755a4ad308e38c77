use Rattle.std.proofs.lemmas.Str.Pattern.{contains_text}
use Rattle.cfa_edit_proof.proofs.Contained.{contained}
use Rattle.cfa_edit_proof.proofs.texts.contains.Goals as goal

pub returns : goal.returns
returns c = contained _ c.args.line.now c.args.text.now (contains_text _ c.args.text.now c.args.line.now c.contains.ensures.cases)
