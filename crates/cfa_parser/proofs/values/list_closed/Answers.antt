use Rattle.std.proofs.Common.{◌≡◌, None, IfOk, subst}
use Rattle.cfa_tree.specs.lemmas.Rows.{plain_value-List}
use Rattle.cfa_parser.specs.Seen.{seen_value, seen_calls}
use Rattle.cfa_parser.specs.Values.{value_taken}
use Rattle.cfa_parser.proofs.values.list_closed.Goals as goal

pub returns-clause-ok : goal.returns-clause-ok
returns-clause-ok c =
    subst (λ v. IfOk c.value_taken.result (λ s. seen_value s ≡ value_taken v None (seen_calls c.args.calls.items)))
    (plain_value-List c.args.list.items c.args.list.place) c.value_taken.ensures.ok
