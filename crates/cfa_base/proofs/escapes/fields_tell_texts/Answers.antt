use Rattle.cfa_base.specs.lemmas.Escapes.{fields_tell_texts}
use Rattle.cfa_base.proofs.escapes.fields_tell_texts.Goals as goal

pub returns : goal.returns
returns c = fields_tell_texts
