use Rattle.std.proofs.Common.{sym, ap, ◌∙◌, ◌++◌}
use Rattle.std.specs.String.{string_bytes}
use Rattle.cfa_printer.proofs.Escapes.{plain_character}
use Rattle.cfa_printer.proofs.texts.push_escaped.Goals as goal

pub returns : goal.returns
returns c = c.in_ok-push.ensures.bytes ∙ ap (λ x. string_bytes c.args.out.now ++ x) (sym (plain_character c.args.character c.if-character-eq34.false c.if-character-eq92.false))
