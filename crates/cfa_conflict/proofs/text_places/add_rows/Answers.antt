use Rattle.cfa_conflict.proofs.PlaceLemmas.{places_done}
use Rattle.cfa_conflict.proofs.text_places.add_rows.Goals as goal

pub returns : goal.returns
returns c =
    places_done c.loop-text.places.items c.args.places.now.items c.args.rows.now c.args.key.now c.args.beneath
    c.loop-text.text-index c.loop-text-test.false c.loop-text.invariant
