use Rattle.cfa_schema.proofs.WordLemmas.{named_bundle_stands, common_bundles_stand}
use Rattle.cfa_schema.proofs.laws.served_bundles_stand.Goals as goal

pub returns-clause-named : goal.returns-clause-named
returns-clause-named c = named_bundle_stands

pub returns-clause-common : goal.returns-clause-common
returns-clause-common c = common_bundles_stand
