use Rattle.std.proofs.Common.{map}
use Rattle.cfa_lexer.specs.Lexed.{plain}
use Rattle.cfa_sources.proofs.TextLemmas.{parse_why, parse_refused}
use Rattle.cfa_sources.proofs.reading.read_tokens.Goals as goal

pub returns-in_ok-parse_line-in-Err : goal.returns-in_ok-parse_line-in-Err
returns-in_ok-parse_line-in-Err c =
    parse_refused c.args.file c.args.name.now c.args.source.now _ (map plain c.args.tokens.now) c.end_place.result c.in-Err.error c.requires.text c.requires.lexes c.end_place.ensures.place
    (parse_why (map plain c.args.tokens.now) c.end_place.result c.parse.result c.in-Err.error c.in-Err.is c.parse.ensures.unexpected c.parse.ensures.too_deep)
    c.in_ok-parse_line-in-Err.ensures
