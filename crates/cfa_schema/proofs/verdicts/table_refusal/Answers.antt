use Rattle.cfa_tree.specs.Plain.{plain_policy}
use Rattle.cfa_schema.proofs.VerdictLemmas.{first_of_table, first_is, none_is}
use Rattle.cfa_schema.proofs.verdicts.table_refusal.Goals as goal

pub returns-clause-some : goal.returns-clause-some
returns-clause-some c =
    let policy = plain_policy c.args.policy.now in
    first_is policy c.note_cycle.new.first
    (first_of_table policy c.note_table.new.first c.note_cycle.new.first c.in_ok-note_table.ensures c.in_ok-note_cycle.ensures)

pub returns-clause-none : goal.returns-clause-none
returns-clause-none c =
    let policy = plain_policy c.args.policy.now in
    none_is policy c.note_cycle.new.first
    (first_of_table policy c.note_table.new.first c.note_cycle.new.first c.in_ok-note_table.ensures c.in_ok-note_cycle.ensures)
