use Rattle.std.proofs.Common.{ℕ, List, arith, subst}
use Rattle.cfa_uses.specs.Found.{HasTokens, TellsTokens}
use Rattle.cfa_uses.proofs.PartLemmas.{all_more, all_taken}
use Rattle.cfa_uses.proofs.found.Walk.take_files.Goals as goal

pub loop-file-preserved : goal.loop-file-preserved
loop-file-preserved c = record {
  tokens = all_more (λ (f : List ℕ × List ℕ). HasTokens f.1) c.args.files.now c.loop-file.file-index c.file-item.result c.loop-file-test.true
      c.loop-file.invariant.tokens
      (subst (λ (f : List ℕ × List ℕ). HasTokens f.1) c.file-item.is (subst (λ b. TellsTokens b c.file-item.result.1) c.if-not-branch.false c.in_ok-take_file.ensures));
  none = λ zero. absurd (omega (arith, zero));
}

pub returns-clause-tokens : goal.returns-clause-tokens
returns-clause-tokens c _ = all_taken (λ (f : List ℕ × List ℕ). HasTokens f.1) c.args.files.now c.loop-file.file-index (omega (arith, c.loop-file-test.false)) c.loop-file.invariant.tokens
