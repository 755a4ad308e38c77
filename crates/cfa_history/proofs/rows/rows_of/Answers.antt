use Rattle.std.proofs.Common.{◌≡◌, ◌<◌, ◌^◌, get_or, sym, ap, ◌∙◌, arith}
use Rattle.std.specs.Rc.{rc_str_bytes}
use Rattle.cfa_journal.specs.Stored.{record_of}
use Rattle.cfa_history.specs.Tables.{by_id, counts_in}
use Rattle.cfa_history.proofs.TableLemmas.{found_within, room, step_on}
use Rattle.cfa_history.proofs.rows.rows_of.Goals as goal

pub take-requires : goal.take-requires
take-requires c id =
    let before = c.loop-i-test.true in
    let few = c.requires in
    let small : c.loop-i.i < 2 ^ 32 = omega arith in
    let entries = by_id rc_str_bytes c.loop-i.table.entries in
    room c.loop-i.i (counts_in id entries) small (found_within c.loop-i.i id entries c.loop-i.invariant.within)

pub loop-i-preserved : goal.loop-i-preserved
loop-i-preserved c =
    let item = record_of c.get.result in
    let same : item ≡ c.index-records-i.result = c.get.ensures in
    let item_is : item ≡ get_or c.args.records.now c.loop-i.i item = same ∙ c.index-records-i.is ∙ ap (get_or c.args.records.now c.loop-i.i) (sym same) in
    record {
      within = c.in_ok-moment.ensures.within c.loop-i.i c.loop-i.invariant.within;
      so_far =
          step_on c.args.records.now c.loop-i.i item (by_id rc_str_bytes c.loop-i.table.entries) (by_id rc_str_bytes c.take.new.table.entries) c.loop-i.moment c.in_ok-moment.moment c.loop-i-test.true item_is c.in_ok-moment.ensures.tallied
          ∙ c.loop-i.invariant.so_far;
    }
