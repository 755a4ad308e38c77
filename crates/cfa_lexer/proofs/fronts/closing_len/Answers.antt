use Rattle.std.proofs.Common.{sym, subst, take, arith, ◌+◌}
use Rattle.std.proofs.lemmas.List.{take_all}
use Rattle.std.specs.Prelude.{List, ℕ}
use Rattle.cfa_lexer.proofs.Lengths.{Reads, reads_behind, reads_on, unclosed}
use Rattle.cfa_lexer.proofs.fronts.closing_len.Goals as goal
use Rattle.cfa_lexer.proofs.fronts.closing_len.Goals.{then-behind_backslash, else-behind_backslash+else-byte-quote}

pub loop-i-preserved : goal.loop-i-preserved
loop-i-preserved c =
    elim c.if-behind_backslash.branch [
      | then-behind_backslash w ↦
          subst (Reads c.args.quote (take (c.loop-i.i + 1) c.args.bytes.now)) (sym w.behind_backslash-is)
          (reads_behind c.args.quote c.args.bytes.now c.loop-i.i c.loop-i.behind_backslash w.if-behind_backslash.true (omega arith) c.loop-i.invariant)
      | else-behind_backslash+else-byte-quote w ↦
          subst (Reads c.args.quote (take (c.loop-i.i + 1) c.args.bytes.now)) (sym w.behind_backslash-is)
          (reads_on c.args.quote c.args.bytes.now c.loop-i.i c.loop-i.behind_backslash w.if-behind_backslash.false w.if-byte-quote.false (omega arith) c.loop-i.invariant)
    ]

pub returns : goal.returns
returns c = unclosed c.args.quote c.args.bytes.now c.loop-i.behind_backslash
    (subst (λ (x : List ℕ). Reads c.args.quote x c.loop-i.behind_backslash) (take_all c.loop-i.i c.args.bytes.now (omega arith)) c.loop-i.invariant)
