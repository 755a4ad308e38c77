use Rattle.std.proofs.Common.{◌≡◌, Bool, length, take, refl, ap, ◌∙◌, arith, rules}
use Rattle.std.proofs.lemmas.List.{take_all}
use Rattle.std.proofs.lemmas.List.Sorted.{IsPartitionPoint-from_clause}
use Rattle.cfa_base.specs.Index.{Text}
use Rattle.cfa_conflict.specs.Targets.{is_near}
use Rattle.cfa_conflict.proofs.OrderLemmas.{is_before, those_near, found_together}
use Rattle.cfa_conflict.proofs.PlaceLemmas.{Seen}
use Rattle.cfa_conflict.proofs.text_places.rows_near.Goals as goal

pub returns : goal.returns
returns c = λ sorted.
    let rows = c.args.rows.now in
    let rest = c.split_at.result.1.now in
    let key = c.args.key.now in
    let near : Seen → Bool = λ row. is_near key c.args.beneath row.0.now in
    let whole : take (length key) key ≡ key = take_all (length key) key (omega arith) in
    let start = c.partition_point-start.result in
    let end = c.partition_point-end.result in
    found_together rows rest c.split_at-2.result.0.now key near start end (those_near key c.args.beneath) sorted c.partition_point-start.ensures.bound c.split_at.ensures.back
    c.partition_point-end.ensures.bound c.split_at-2.ensures.front
    (λ parted. IsPartitionPoint-from_clause (is_before key) rows start c.partition_point-start.ensures.partitioned parted (λ a r q k. search rules))
    (λ parted. IsPartitionPoint-from_clause near rest end c.partition_point-end.ensures.partitioned parted (λ a r q k. (k.met.1 ∙ ap (λ (t : Text). is_near t c.args.beneath a.0.now.0.now) whole, (let text = k.met.0.0 in let whether = k.met.0.1 in rw (← text, ← whether) refl))))
