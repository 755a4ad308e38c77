use Rattle.std.proofs.lemmas.Result.{IfOk-weaker}
use Rattle.cfa_main.proofs.HistoryLemmas.{is_history_text}
use Rattle.cfa_main.proofs.histories.history_lines.Goals as goal

pub returns : goal.returns
returns c = IfOk-weaker c.history_text.result _ _ (λ text is. is_history_text c.args.journal.now.records c.args.journal.now.torn text c.in_ok-rows.field-0.rows c.into_vec.result.items c.in_ok-rows.field-0.gaps c.as_slice.result.now c.in_ok-rows.field-0.runs
    c.in_ok-rows.ensures.rows c.into_vec.ensures c.as_slice.ensures c.in_ok-rows.ensures.gaps c.in_ok-rows.ensures.runs is) c.history_text.ensures
