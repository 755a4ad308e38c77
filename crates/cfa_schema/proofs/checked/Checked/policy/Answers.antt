use Rattle.std.proofs.Common.{refl, inr}
use Rattle.std.proofs.Math.Logic.{∥∥₁_elim, ∥∥₁_map}
use Rattle.cfa_values.specs.Refusals.{refusal}
use Rattle.cfa_schema.specs.Seen.{tree_of}
use Rattle.cfa_schema.proofs.checked.Checked.policy.Goals as goal
use Rattle.cfa_values.specs.declared.refusals.Code.TheVariants.{CallCycle}

pub returns-clause-plain : goal.returns-clause-plain
unfolding tree_of
returns-clause-plain c = refl

pub returns-clause-valid : goal.returns-clause-valid
unfolding tree_of
returns-clause-valid c = ∥∥₁_map c.args.self.now.valid (λ v. v.0)

pub returns-clause-sourced : goal.returns-clause-sourced
unfolding tree_of
returns-clause-sourced c = ∥∥₁_map c.args.self.now.valid (λ v. v.1)

-- a call on a cycle would be refused
pub returns-clause-acyclic : goal.returns-clause-acyclic
unfolding tree_of
returns-clause-acyclic c = λ call is on. ∥∥₁_elim {P = ⊥} c.args.self.now.valid (λ x y. absurd x) (λ v. v.0.none_applies (refusal CallCycle call.place) (inr (call, is, on, refl)))
