use Rattle.std.proofs.Common.{ap, inl, Err}
use Rattle.cfa_uses.proofs.walking.tokens_of.Goals as goal

pub returns-in-Err-NotText : goal.returns-in-Err-NotText
returns-in-Err-NotText c = inl (λ text. ((c.in-Err-NotText.ensures.not_text c.in-Err-NotText.field-0-0).0 (ap Err c.in-Err-NotText.field-0-is)).broken text.utf8)
