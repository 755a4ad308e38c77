use Rattle.std.proofs.Common.{sym, ◌∙◌}
use Rattle.cfa_tables.proofs.RowChangeLemmas.{change_space, five_words}
use Rattle.cfa_tables.proofs.row_changes.read_change.Goals as goal

pub returns-in_default : goal.returns-in_default
returns-in_default c change is same = change_space change _ same c.in_default.ensures.none

pub returns-else-is_text-5 : goal.returns-else-is_text-5
returns-else-is_text-5 c change is same =
    five_words change _ _ _ same c.in-Some.ensures.some (sym c.is_text.ensures ∙ c.if-is_text.false) (sym c.is_text-else-is_text.ensures ∙ c.if-is_text-2.false) (sym c.is_text-else-is_text-2.ensures ∙ c.if-is_text-3.false) (sym c.is_text-else-is_text-3.ensures ∙ c.if-is_text-4.false) (sym c.is_text-else-is_text-4.ensures ∙ c.if-is_text-5.false)
