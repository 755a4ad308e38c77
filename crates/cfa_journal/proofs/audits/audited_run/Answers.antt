use Rattle.std.proofs.Common.{◌≡◌, ◌+◌, get_or, drop, sym, ap, ◌∙◌, arith}
use Rattle.cfa_journal.specs.declared.audits.AuditedRun.{AuditedRun}
use Rattle.cfa_journal.specs.Stored.{record_of}
use Rattle.cfa_journal.proofs.AuditLemmas.{no_run, no_run2, one_more, counts_is, goes_on}
use Rattle.cfa_journal.proofs.audits.audited_run.Goals as goal

pub loop-i-preserved : goal.loop-i-preserved
loop-i-preserved c =
    let behind = c.args.behind.now in
    let item = record_of c.get-item.result in
    let same : item ≡ c.index-behind-i.result = c.get-item.ensures in
    let item_is : item ≡ get_or behind c.loop-i.i item = same ∙ c.index-behind-i.is ∙ ap (get_or behind c.loop-i.i) (sym same) in
    let more = one_more c.loop-i.run (drop (c.loop-i.i + 1) behind) item (no_run c.get-item.result c.in_default.not-Run) (no_run2 c.get-item.result c.in_default.not-Run2) in
    let is = counts_is behind c.loop-i.i c.loop-i.run c.count.new.run item c.loop-i-test.true item_is more c.count.ensures in
    let repaired_is = ap (λ (run : AuditedRun). run.repaired) is in
    let failed_is = ap (λ (run : AuditedRun). run.failed) is in
    let opened_is = ap (λ (run : AuditedRun). run.opened) is in
    let repaired = more.repaired in
    let failed = more.failed in
    let opened = more.opened in
    let before = c.loop-i.invariant in
    let repaired' = before.repaired in
    let failed' = before.failed in
    let opened' = before.opened in
    record {
      repaired = omega arith;
      failed = omega arith;
      opened = omega arith;
      so_far = goes_on behind c.loop-i.i c.loop-i.run c.count.new.run item c.loop-i-test.true item_is more c.count.ensures ∙ before.so_far;
    }
