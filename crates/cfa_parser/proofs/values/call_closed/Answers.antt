use Rattle.std.proofs.Common.{◌≡◌, IfOk, option_map, subst}
use Rattle.cfa_tree.specs.lemmas.Rows.{plain_value-Call}
use Rattle.cfa_parser.specs.Seen.{seen_value, seen_list, seen_calls}
use Rattle.cfa_parser.specs.Values.{value_taken}
use Rattle.cfa_parser.proofs.values.call_closed.Goals as goal

pub returns-clause-ok : goal.returns-clause-ok
returns-clause-ok c =
    let called = c.args.call in
    subst (λ v. IfOk c.value_taken.result (λ s. seen_value s ≡ value_taken v (option_map seen_list called.around) (seen_calls c.args.calls.items)))
    (plain_value-Call called.function called.arguments called.place) c.value_taken.ensures.ok
