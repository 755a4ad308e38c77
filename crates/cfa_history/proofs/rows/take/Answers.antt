use Rattle.std.proofs.Common.{◌+◌, sym, subst, arith}
use Rattle.std.specs.Rc.{rc_str_bytes}
use Rattle.cfa_history.specs.declared.endings.Ending.TheVariants.{Failed}
use Rattle.cfa_history.specs.Tables.{AllWithin, by_id}
use Rattle.cfa_history.proofs.TableLemmas.{tally_within}
use Rattle.cfa_history.proofs.rows.take.Goals as goal

pub returns-in_ok-note-in-Open-clause-within : goal.returns-in_ok-note-in-Open-clause-within
returns-in_ok-note-in-Open-clause-within c n all =
    subst (AllWithin (n + 1)) (sym c.in_ok-note-in-Open.ensures)
    (tally_within n (by_id rc_str_bytes c.args.table.now.entries) c.in-Open.id.now c.args.moment c.ending_of.result all c.ending_of.ensures.small)

pub returns-in_ok-note-in-Fail-clause-within : goal.returns-in_ok-note-in-Fail-clause-within
returns-in_ok-note-in-Fail-clause-within c n all =
    subst (AllWithin (n + 1)) (sym c.in_ok-note-in-Fail.ensures)
    (tally_within n (by_id rc_str_bytes c.args.table.now.entries) c.in-Fail.id.now c.args.moment Failed all (omega arith))
