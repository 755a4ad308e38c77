use Rattle.cfa_schema.proofs.CallLemmas.{each_bundle_calls}
use Rattle.cfa_schema.proofs.ChainLemmas.{chains_are_short}
use Rattle.cfa_schema.proofs.laws.chains_are_short.Goals as goal

pub returns-clause-each : goal.returns-clause-each
returns-clause-each c = each_bundle_calls

pub returns-clause-short : goal.returns-clause-short
returns-clause-short c = chains_are_short
