use Rattle.std.proofs.Common.{sym, ap, ◌∙◌}
use Rattle.std.specs.Prelude.{unwrap_or}
use Rattle.std.specs.Rc.{rc_str_bytes}
use Rattle.cfa_history.specs.Rows.{none_counted}
use Rattle.cfa_history.specs.Tables.{id_at}
use Rattle.cfa_history.proofs.TableLemmas.{find-by_id}
use Rattle.cfa_history.proofs.rows.counts_at.Goals as goal

pub returns-in-Some : goal.returns-in-Some
returns-in-Some c =
    ap (λ o. unwrap_or o none_counted) (c.in-Some.ensures.value ∙ sym (find-by_id rc_str_bytes (id_at rc_str_bytes c.args.key.now) c.args.table.now.entries))

pub returns-in-None : goal.returns-in-None
returns-in-None c =
    ap (λ o. unwrap_or o none_counted) (c.in-None.ensures.value ∙ sym (find-by_id rc_str_bytes (id_at rc_str_bytes c.args.key.now) c.args.table.now.entries))
