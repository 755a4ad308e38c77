-- Of the code alone: what counts say of a part of a run, whether or not its site tells what it does.
use Rattle.std.specs.Prelude.{ℕ, ◌≡◌, ◌≤◌, Option, Some, None, ⊤}
use Rattle.std.proofs.Common.{arith, refl, sym, ◌∙◌}
use Rattle.cfa_base.specs.Shown.{Shown}
use Rattle.cfa_outside.specs.Sites.{Told}
use Rattle.cfa_acts.specs.declared.acts.Reason.{Reason}
use Rattle.cfa_agent.specs.Ran.{CountsFaults}
use Rattle.cfa_agent.specs.Standing.{Standing}

-- where no act failed no call did
abbrev pub IsCalmUnless : (failure : Option Reason) → (before after : Shown Told) → Type 0
IsCalmUnless None before after = after.faults ≡ before.faults
IsCalmUnless (Some reason) before after = ⊤

-- who tells, with what its site shows
abbrev pub CountsOn : (w w' : Standing) → Type 0
CountsOn w w' = CountsFaults w.0.tally.failed w'.0.tally.failed w.1.0.faults w'.1.0.faults

pub faults_counted_none : (a f : ℕ) → CountsFaults a a f f
faults_counted_none a f = record { failed_later = omega arith; later = omega arith; calm = λ same. refl }

pub faults_counted_both : (a b c f g h : ℕ) → CountsFaults a b f g → CountsFaults b c g h → CountsFaults a c f h
faults_counted_both a b c f g h first second =
    let up : a ≤ b = first.failed_later in
    let more : b ≤ c = second.failed_later in
    let late : f ≤ g = first.later in
    let later : g ≤ h = second.later in
    record {
      failed_later = omega (arith, up, more);
      later = omega (arith, late, later);
      calm = λ same.
          let first_same : b ≡ a = omega (arith, up, more, same) in
          second.calm (same ∙ sym first_same) ∙ first.calm first_same;
    }

pub counts_on_none : (w : Standing) → CountsOn w w
counts_on_none w = faults_counted_none w.0.tally.failed w.1.0.faults

pub counts_on_then : (v w x : Standing) → CountsOn v w → CountsOn w x → CountsOn v x
counts_on_then v w x first second =
    faults_counted_both v.0.tally.failed w.0.tally.failed x.0.tally.failed v.1.0.faults w.1.0.faults x.1.0.faults first second
