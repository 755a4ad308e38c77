use Rattle.std.proofs.Common.{◌≡◌, sym, ap, ◌∙◌, ◌++◌}
use Rattle.std.specs.List.{flat_map}
use Rattle.std.specs.Str.{chars, encode_utf8_all}
use Rattle.std.specs.String.{string_bytes}
use Rattle.std.proofs.lemmas.Iterator.{YieldsList-from_chars}
use Rattle.std.proofs.lemmas.Iterator.Consumers.{YieldsList-end}
use Rattle.std.proofs.lemmas.List.{map-id}
use Rattle.std.proofs.lemmas.Str.{encodes-chars}
use Rattle.cfa_printer.specs.Printing.{escaped}
use Rattle.cfa_printer.proofs.Escapes.{one_more}
use Rattle.cfa_printer.proofs.texts.push_content.Goals as goal

pub loop-character-preserved : goal.loop-character-preserved
loop-character-preserved c = one_more _ _ _ _ _ c.loop-character.invariant c.in_ok-push_escaped.ensures

pub returns : goal.returns
returns c =
    let t = YieldsList-end (YieldsList-from_chars c.args.content.now c.utf8.content cc) c.loop-character.yielded _ c.loop-character.yielded_by _ _ c.in-None.is c.next.ensures.steps in
    let all : c.loop-character.yielded ≡ chars c.args.content.now = sym (map-id c.loop-character.yielded) ∙ t.0 in
    c.loop-character.invariant ∙ ap (λ x. string_bytes c.args.out.now ++ flat_map escaped x) (ap encode_utf8_all all ∙ encodes-chars c.args.content.now c.utf8.content)
