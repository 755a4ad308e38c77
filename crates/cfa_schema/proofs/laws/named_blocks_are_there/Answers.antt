use Rattle.cfa_schema.proofs.FactLemmas.{nothing_is_refused, named_body_is_there, edit_bundle_is_there, agent_bundle_is_there}
use Rattle.cfa_schema.proofs.laws.named_blocks_are_there.Goals as goal

pub returns-clause-nothing_refused : goal.returns-clause-nothing_refused
returns-clause-nothing_refused c = nothing_is_refused

pub returns-clause-body : goal.returns-clause-body
returns-clause-body c = named_body_is_there

pub returns-clause-edit_bundle : goal.returns-clause-edit_bundle
returns-clause-edit_bundle c = edit_bundle_is_there

pub returns-clause-agent_bundle : goal.returns-clause-agent_bundle
returns-clause-agent_bundle c = agent_bundle_is_there
