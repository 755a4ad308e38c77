use Rattle.cfa_schema.proofs.IdLemmas.{listed_ids_are_found, found_ids_are_listed}
use Rattle.cfa_schema.proofs.laws.ids_are_found.Goals as goal

pub returns-clause-found : goal.returns-clause-found
returns-clause-found c = listed_ids_are_found

pub returns-clause-listed : goal.returns-clause-listed
returns-clause-listed c = found_ids_are_listed
