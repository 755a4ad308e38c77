use Rattle.cfa_values.proofs.ScopeLemmas.{literal_by_first}
use Rattle.cfa_values.proofs.scope.is_literal.Goals as goal

pub returns : goal.returns
returns c = literal_by_first c.args.text.now c.first_reference.result c.is_none.result c.is_none.ensures c.first_reference.ensures.first
