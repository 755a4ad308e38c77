use Rattle.std.proofs.Common.{map, sym, subst}
use Rattle.std.specs.Prelude.{IfOk, IsErrOf}
use Rattle.cfa_lexer.specs.Lexed.{plain}
use Rattle.cfa_tree.specs.Grammar.{depth_limit, ReadsWithin}
use Rattle.cfa_tree.specs.Plain.{plain_policy}
use Rattle.cfa_parser.specs.declared.errors.ParseErr.TheVariants.{Unexpected}
use Rattle.cfa_parser.specs.Reading.{UnexpectedAt}
use Rattle.cfa_parser.specs.Seen.{seen_reader}
use Rattle.cfa_parser.proofs.Stops.{read_ok, read_err}
use Rattle.cfa_parser.proofs.reader.parse.Goals as goal

pub returns-clause-reads : goal.returns-clause-reads
returns-clause-reads c =
    subst (λ r. IfOk r (λ policy. ReadsWithin depth_limit (map plain c.args.tokens.now) (plain_policy policy))) (sym c.ok_or.ensures.value)
    (read_ok (map plain c.args.tokens.now) (seen_reader c.in_ok-reader.reader) c.whole_policy.result (Unexpected c.args.end) c.in_ok-reader.ensures.ok c.whole_policy.ensures)

pub returns-clause-unexpected : goal.returns-clause-unexpected
returns-clause-unexpected c = λ place.
    subst (λ r. IsErrOf r (Unexpected place) → UnexpectedAt (map plain c.args.tokens.now) c.args.end place) (sym c.ok_or.ensures.value)
    (read_err (map plain c.args.tokens.now) (seen_reader c.in_ok-reader.reader) c.whole_policy.result c.args.end c.in_ok-reader.ensures.ok c.whole_policy.ensures place)
