use Rattle.std.proofs.Common.{ℕ, List, ◌++◌, sym, ap, subst, ◌∙◌}
use Rattle.std.proofs.lemmas.Result.{on_ok_weaker}
use Rattle.cfa_conflict.specs.Targets.{AreSorted, Row, places_of, seen_rows}
use Rattle.cfa_conflict.proofs.PlaceLemmas.{Seen, places_near}
use Rattle.cfa_conflict.proofs.text_places.TextPlaces.add_places.Goals as goal

pub returns : goal.returns
returns c =
    let key = c.args.key.now in
    let beneath = c.args.beneath in
    let slice = c.as_slice.result.now in
    let found = c.rows_near-rows.ensures (subst AreSorted (sym c.as_slice.ensures.value) c.self.invariant) in
    let all =
    ap (λ (l : List Seen). places_of (seen_rows l) key beneath) found
    ∙ places_near slice key beneath
    ∙ ap (λ (l : List Seen). places_of (seen_rows l) key beneath) c.as_slice.ensures.value
    ∙ ap (λ (l : List Row). places_of l key beneath) c.self.view_is in
    on_ok_weaker c.add_rows.result (λ grown. grown ∙ ap (λ (l : List ℕ). c.args.places.now.items ++ l) all) c.add_rows.ensures
