use Rattle.std.proofs.lemmas.Result.{err_from_is_err_and}
use Rattle.cfa_parser.specs.Seen.{seen_reader}
use Rattle.cfa_parser.proofs.Stops.{turn, stops}
use Rattle.cfa_parser.proofs.reader.take_all.Goals as goal

pub returns-in_err-reader-clause-refused : goal.returns-in_err-reader-clause-refused
returns-in_err-reader-clause-refused c =
    let p = err_from_is_err_and c.from_residual.result c.from_residual.ensures.1 in
    rw (p.1, p.2) (stops c.args.tokens.now c.loop-token.token-index _ _ (seen_reader c.loop-token.reader) c.in_err-reader.field-0.0 c.loop-token-test.true c.token-item.is c.loop-token.invariant c.in_err-reader.ensures)

pub loop-token-preserved : goal.loop-token-preserved
loop-token-preserved c = turn c.args.tokens.now c.loop-token.token-index _ _ (seen_reader c.loop-token.reader) (seen_reader c.in_ok-reader.reader) c.loop-token-test.true c.token-item.is c.loop-token.invariant c.in_ok-reader.ensures
