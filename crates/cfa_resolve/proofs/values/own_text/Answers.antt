use Rattle.std.proofs.Common.{ap, sym, subst, List, ℕ, length, ◌≤◌, ◌∙◌}
use Rattle.cfa_base.specs.declared.limits.TheConstants.{MOST_TEXT_BYTES}
use Rattle.cfa_tree.specs.Plain.{plain_value}
use Rattle.cfa_vars.specs.Scopes.{in_scope}
use Rattle.cfa_bodies.specs.Bodies.{whole_or_empty}
use Rattle.cfa_resolve.proofs.FileLemmas.{given_short}
use Rattle.cfa_resolve.proofs.values.own_text.Goals as goal

pub returns-in_ok-whole_or_empty-in-Some-clause-short : goal.returns-in_ok-whole_or_empty-in-Some-clause-short
returns-in_ok-whole_or_empty-in-Some-clause-short c =
    subst (λ (t : List ℕ). length t ≤ MOST_TEXT_BYTES)
    (sym (c.in_ok-whole_or_empty-in-Some.ensures ∙ ap whole_or_empty c.in_ok-text-in-Some.ensures))
    (given_short (in_scope c.args.scopes.now) c.args.choice.now (plain_value c.in-Some.value.now))
