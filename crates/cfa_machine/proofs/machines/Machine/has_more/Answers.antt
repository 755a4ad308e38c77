use Rattle.std.proofs.Common.{◌∙◌, ap, sym, subst, ℕ, ◌<◌, ◌≤◌, List, length}
use Rattle.std.specs.Prelude.{nat_lt}
use Rattle.cfa_machine.specs.Needs.{need_if}
use Rattle.cfa_machine.proofs.AheadLemmas.{more_commons, last_names}
use Rattle.cfa_machine.proofs.machines.Machine.has_more.Goals as goal

pub returns-then-self-len : goal.returns-then-self-len
returns-then-self-len c = more_commons c.args.self.now (subst (λ (n : ℕ). c.args.self.now.round < n) c.len.ensures c.if-self-len.true)

pub returns : goal.returns
returns c =
    last_names c.args.self.now (subst (λ (n : ℕ). n ≤ c.args.self.now.round) c.len.ensures c.if-self-len.false) c.if-self-gt0.false
    ∙ ap (λ (names : List (List ℕ)). need_if (nat_lt c.args.self.now.at (length names))) (sym c.as_slice.ensures)
