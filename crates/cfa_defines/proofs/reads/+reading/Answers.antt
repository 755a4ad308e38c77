use Rattle.std.proofs.Common.{◌≡◌, ◌∙◌, ◌++◌, ap, sym, subst, map, List, OnOk}
use Rattle.cfa_tree.specs.Plain.{plain_value}
use Rattle.cfa_tree.specs.Tree.{value_trees}
use Rattle.cfa_defines.specs.declared.reads.Read.{Read}
use Rattle.cfa_defines.specs.OwnTexts.{reads_among}
use Rattle.cfa_defines.proofs.ReadLemmas.{reads_of_list, reads_of_call}
use Rattle.cfa_defines.proofs.reads.+reading.Goals as goal

pub add_reads-returns-in-List : goal.add_reads-returns-in-List
add_reads-returns-in-List t c =
    let whole = reads_of_list c.args.value.now c.in-List.items c.in-List.field-1 c.in-List.is in
    let same = ap (λ vs. reads_among (value_trees (map plain_value vs))) c.as_slice.ensures.value in
    subst (λ (x : List Read). OnOk c.add_reads_among.result (c.add_reads_among.new.reads.items ≡ c.args.reads.now.items ++ x)) (same ∙ sym whole) c.add_reads_among.ensures

pub add_reads-returns-in-Call : goal.add_reads-returns-in-Call
add_reads-returns-in-Call t c =
    let whole = reads_of_call c.args.value.now c.in-Call.field-0 c.in-Call.arguments c.in-Call.field-2 c.in-Call.is in
    let same = ap (λ vs. reads_among (value_trees (map plain_value vs))) c.as_slice-in-Call.ensures.value in
    subst (λ (x : List Read). OnOk c.add_reads_among-in-Call.result (c.add_reads_among-in-Call.new.reads.items ≡ c.args.reads.now.items ++ x)) (same ∙ sym whole) c.add_reads_among-in-Call.ensures
