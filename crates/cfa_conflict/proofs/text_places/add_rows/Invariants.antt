use Rattle.std.proofs.Common.{◌≡◌, ◌++◌, drop}
use Rattle.cfa_conflict.specs.Targets.{seen_rows, places_of}
use Rattle.cfa_conflict.proofs.text_places.add_rows.Given as goal

abbrev pub invariant-loop-text : goal.invariant-loop-text
invariant-loop-text l =
    l.places.items ++ places_of (seen_rows (drop l.text-index l.rows)) l.key l.beneath
    ≡ l.initial.places.items ++ places_of (seen_rows l.rows) l.key l.beneath
