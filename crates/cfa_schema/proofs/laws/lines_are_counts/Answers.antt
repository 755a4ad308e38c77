use Rattle.cfa_schema.proofs.WordLemmas.{lines_are_counts, lines_are_few, promises_are_few, ids_are_counted}
use Rattle.cfa_schema.proofs.laws.lines_are_counts.Goals as goal

pub returns-clause-counts : goal.returns-clause-counts
returns-clause-counts c = lines_are_counts

pub returns-clause-few : goal.returns-clause-few
returns-clause-few c = lines_are_few

pub returns-clause-promises : goal.returns-clause-promises
returns-clause-promises c = promises_are_few

pub returns-clause-ids : goal.returns-clause-ids
returns-clause-ids c = ids_are_counted
