use Rattle.std.proofs.Math.Logic.{∥∥₁_elim}
use Rattle.cfa_schema.specs.Seen.{tree_of}
use Rattle.cfa_states.specs.lemmas.PlainNames.{plain_names}
use Rattle.cfa_visits.proofs.FactLemmas.{plain_names_prop}
use Rattle.cfa_visits.proofs.facts.names_are_plain.Goals as goal

pub returns : goal.returns
returns c =
    let policy = tree_of c.args.checked.now in
    ∥∥₁_elim c.policy.ensures.valid (plain_names_prop policy) (λ valid.
    ∥∥₁_elim c.policy.ensures.sourced (plain_names_prop policy) (λ sourced.
    plain_names policy c.names_are_words.ensures.one_line c.served_names_are_words.ensures.common c.served_names_are_words.ensures.sequence valid sourced))
