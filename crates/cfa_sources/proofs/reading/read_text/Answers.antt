use Rattle.cfa_sources.proofs.TextLemmas.{lex_why, lex_refused}
use Rattle.cfa_sources.proofs.reading.read_text.Goals as goal

pub returns-in_ok-lex_line-in-Err : goal.returns-in_ok-lex_line-in-Err
returns-in_ok-lex_line-in-Err c =
    lex_refused c.args.file c.args.name.now c.args.source.now _ c.in-Err.error
    (lex_why c.args.file c.args.source.now c.lex.result c.in-Err.error c.in-Err.is c.lex.ensures.too_long c.lex.ensures.not_text c.lex.ensures.bad_byte c.lex.ensures.unclosed_text)
    c.in_ok-lex_line-in-Err.ensures
