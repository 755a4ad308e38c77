use Rattle.std.proofs.Common.{ℕ, ◌+◌, ◌∙◌, ap, sym, subst, map, take}
use Rattle.cfa_tree.specs.Plain.{plain_block}
use Rattle.std.specs.Prelude.{option_map}
use Rattle.std.specs.Str.{bytes_eq}
use Rattle.std.specs.FinMap as finite
use Rattle.cfa_base.specs.IndexTables.{Notes}
use Rattle.cfa_base.specs.TextMaps.{TextMap, text_cmp}
use Rattle.cfa_served.specs.Indexed.{AnswersPlaces}
use Rattle.cfa_served.proofs.IndexLemmas.{place_passed, place_more}
use Rattle.cfa_served.proofs.index.first_places.Goals as goal
use Rattle.cfa_served.proofs.index.first_places.Goals.{in-Some+in_ok-note_place, in_default}

pub loop-place-init : goal.loop-place-init
loop-place-init c = λ name. ap (λ places. finite.get places name) c.new-places.ensures ∙ finite.get-empty text_cmp name

pub loop-place-preserved : goal.loop-place-preserved
loop-place-preserved c =
    let blocks = c.args.blocks.now in
    let i = c.loop-place.place in
    let block = c.index-blocks-place.result in
    let found = option_map (λ name. name.now) c.name_in.result in
    elim c.match-name_in.branch [
      | in-Some+in_ok-note_place w ↦
          place_more c.args.wanted blocks i block c.loop-place-test.true c.index-blocks-place.is c.loop-place.places c.loop-place.invariant
          found w.in-Some.name.now c.match-name_in.places c.name_in.ensures (ap (option_map (λ name. name.now)) w.in-Some.is)
          (subst (λ (places : TextMap ℕ). Notes bytes_eq (finite.get c.loop-place.places) (finite.get places) w.in-Some.name.now i) (sym w.places-is) w.in_ok-note_place.ensures)
      | in_default w ↦
          subst (λ (places : TextMap ℕ). AnswersPlaces c.args.wanted places (map plain_block (take (i + 1) blocks))) (sym w.places-is)
          (place_passed c.args.wanted blocks i block c.loop-place-test.true c.index-blocks-place.is c.loop-place.places c.loop-place.invariant
          found c.name_in.ensures (ap (option_map (λ name. name.now)) w.in_default.is))
    ]
