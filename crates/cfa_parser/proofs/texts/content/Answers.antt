use Rattle.cfa_parser.proofs.TextBytes.{cut_content_utf8}
use Rattle.cfa_parser.proofs.texts.content.Goals as goal

pub name_from_utf8-requires : goal.name_from_utf8-requires
name_from_utf8-requires c = cut_content_utf8 _ _ _ c.as_bytes.ensures.value c.in_ok-unescaped.ensures.ok c.utf8.text c.requires
