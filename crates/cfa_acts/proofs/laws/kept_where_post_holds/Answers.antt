use Rattle.cfa_acts.proofs.Needs.{kept_by_post}
use Rattle.cfa_acts.proofs.laws.kept_where_post_holds.Goals as goal

pub returns : goal.returns
returns c = kept_by_post
