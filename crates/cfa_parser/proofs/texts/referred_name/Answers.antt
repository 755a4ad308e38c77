use Rattle.std.proofs.Common.{◌∙◌}
use Rattle.cfa_parser.proofs.TextBytes.{cut_name, cut_name_utf8}
use Rattle.cfa_parser.proofs.texts.referred_name.Goals as goal

pub name_from_utf8-requires : goal.name_from_utf8-requires
name_from_utf8-requires c = cut_name_utf8 c.args.sign _ _ _ c.as_bytes.ensures.value c.in_ok-from_slice.ensures.items c.utf8.text c.requires

pub returns-clause-ok : goal.returns-clause-ok
returns-clause-ok c = c.in_ok-name_from_utf8.ensures ∙ cut_name _ _ _ c.as_bytes.ensures.value c.in_ok-from_slice.ensures.items
