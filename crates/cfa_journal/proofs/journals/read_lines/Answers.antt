use Rattle.std.proofs.Common.{◌+◌, ◌++◌, [], ◌∷◌, sym, ap, ◌∙◌, subst}
use Rattle.cfa_journal.specs.declared.records.Record.{Record}
use Rattle.cfa_journal.proofs.ReadSoFar.{IsReadSoFar, goes_on}
use Rattle.cfa_journal.proofs.journals.read_lines.Goals as goal

pub lines-preserved : goal.lines-preserved
lines-preserved c =
    let reads = rw c.in-Some-2.is at c.in_ok-record.ensures in
    let pushed = c.in_ok-push.ensures.items ∙ ap (λ (r : Record). c.lines.records.items ++ r ∷ []) c.in_ok-new.ensures in
    let next = goes_on c.args.bytes.now _ _ _ _ _ _ c.lines.invariant c.in-Some.ensures.some _ _ reads pushed in
    subst (λ p. IsReadSoFar c.args.bytes.now c.push.new.self.items p c.in-Some.behind_line.now (c.lines.number + 1)) (sym c.behind-position.ensures) next
