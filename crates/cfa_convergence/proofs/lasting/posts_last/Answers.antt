use Rattle.cfa_convergence.proofs.LastingLemmas.{posts_last}
use Rattle.cfa_convergence.proofs.lasting.posts_last.Goals as goal

pub returns : goal.returns
returns c =
    posts_last (record {
      kept = c.kept_where_post_holds.ensures;
      fits = c.needed_change_fits.ensures;
      makes = c.needed_change_makes_post.ensures;
      keeps = c.needed_change_keeps_post.ensures;
      parents = c.keeps_parents.ensures.change;
    }) c.keys_tell_works.ensures
