use Rattle.std.proofs.Common.{lit<}
use Rattle.std.proofs.lemmas.Str.Pattern.{split_once_first}
use Rattle.cfa_vars.proofs.NameLemmas.{parts_of}
use Rattle.cfa_vars.proofs.references.split_name.Goals as goal

pub returns : goal.returns
returns c = parts_of c.args.name.now c.split_once.result (split_once_first 46 c.args.name.now c.split_once.result c.split_once.ensures.cases (lit< tt))
