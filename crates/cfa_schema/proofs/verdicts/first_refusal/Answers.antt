use Rattle.std.proofs.Common.{subst, Option, IfSome}
use Rattle.cfa_tree.specs.Plain.{plain_policy}
use Rattle.cfa_values.specs.declared.refusals.Refusal.{Refusal}
use Rattle.cfa_schema.specs.Valid.{IsFirst, of_table}
use Rattle.cfa_schema.proofs.VerdictLemmas.{sequence_some}
use Rattle.cfa_schema.proofs.verdicts.first_refusal.Goals as goal

pub returns-in-Some-clause-some : goal.returns-in-Some-clause-some
returns-in-Some-clause-some c =
    of_table c.in-Some.refusal (subst (λ (o : Option Refusal). IfSome o (IsFirst (plain_policy c.args.policy.now))) c.in-Some.is c.in_ok-refusal.ensures.some)

pub returns-clause-some : goal.returns-clause-some
returns-clause-some c =
    sequence_some (plain_policy c.args.policy.now) c.has_sequence.result c.in_ok-refusal.field-0 c.sequence_refusal.result
    c.has_sequence.ensures c.in_ok-refusal.ensures.none c.in-None.is c.sequence_refusal.ensures
