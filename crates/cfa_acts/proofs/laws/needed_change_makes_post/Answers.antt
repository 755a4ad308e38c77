use Rattle.cfa_acts.proofs.Posts.{made_post}
use Rattle.cfa_acts.proofs.laws.needed_change_makes_post.Goals as goal

pub returns : goal.returns
returns c = made_post
