use Rattle.std.proofs.Common.{sym}
use Rattle.std.proofs.lemmas.List.Sorted.{list_any-IsPermutation, IsPermutation-map}
use Rattle.cfa_conflict.specs.Targets.{seen_row, seen_rows}
use Rattle.cfa_conflict.proofs.text_places.TextPlaces.from_rows.Goals as goal

pub returns : goal.returns
returns c = λ test.
    let before = c.args.rows.items in
    let after = c.sort.new.self.items in
    sym (list_any-IsPermutation test (seen_rows before) (seen_rows after) (IsPermutation-map seen_row before after c.in_ok-sort.ensures.permutation))
