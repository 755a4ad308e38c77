use Rattle.cfa_drill.proofs.TraceLemmas.{interleaved}
use Rattle.cfa_drill.proofs.laws.steps_are_interleaved.Goals as goal

pub returns : goal.returns
returns c =
    interleaved
    (record { whole = c.steps_are_whole.ensures.whole; grows = c.steps_keep_what_is_left.ensures.grows })
    (record {
      begins = c.moves_keep_what_is_left.ensures.begins;
      alike = c.histories_only_grow.ensures.alike;
      ended = c.steps_make_the_run.ensures.ended;
    })
