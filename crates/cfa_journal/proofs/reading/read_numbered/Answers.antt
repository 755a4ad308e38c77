use Rattle.std.proofs.Common.{sym, ◌∙◌}
use Rattle.cfa_journal.proofs.RecordLemmas.{five_words}
use Rattle.cfa_journal.proofs.reading.read_numbered.Goals as goal

pub returns-else-is_text-4 : goal.returns-else-is_text-4
returns-else-is_text-4 c row is same =
    five_words row _ _ c.requires.no_space same c.requires.no_run (sym c.is_text.ensures ∙ c.if-is_text.false) (sym c.is_text-else-is_text.ensures ∙ c.if-is_text-2.false) (sym c.is_text-else-is_text-2.ensures ∙ c.if-is_text-3.false) (sym c.is_text-else-is_text-3.ensures ∙ c.if-is_text-4.false)
