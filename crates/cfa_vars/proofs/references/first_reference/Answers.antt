use Rattle.std.proofs.Common.{◌≡◌, ◌-◌, ◌++◌, ◌∷◌, Some, None, take, drop, map, length, ap, sym, ◌∙◌, arith}
use Rattle.std.proofs.lemmas.List.{take_rest}
use Rattle.std.specs.Option.{option_map}
use Rattle.cfa_vars.specs.References.{literal, reference, reference_at, pieces}
use Rattle.cfa_vars.proofs.ReferenceLemmas.{pieces_found, pieces_more, pieces_none, name_found}
use Rattle.cfa_vars.proofs.references.first_reference.Goals as goal

pub returns-in-Some-clause-first : goal.returns-in-Some-clause-first
returns-in-Some-clause-first c =
    let text = c.args.text.now in
    let place = c.loop-place.place in
    let rest : take (length c.as_bytes-bytes.result.now - place) (drop place c.as_bytes-bytes.result.now) ≡ drop place text = take_rest c.as_bytes-bytes.result.now place ∙ ap (drop place) c.as_bytes-bytes.ensures.value in
    let sized : option_map length (reference_at (drop place text)) ≡ Some c.in-Some.size = ap (λ t. option_map length (reference_at t)) (sym rest) ∙ sym c.in-Some.ensures in
    pieces_found text c.cut.result.name.now c.cut.result.after.now place c.in-Some.size (pieces text) c.utf8.text (omega arith) sized c.cut.ensures.name c.cut.ensures.after c.loop-place.invariant ∙ ap (λ t. map literal t ++ reference c.cut.result.name.now ∷ pieces c.cut.result.after.now) (sym c.cut.ensures.before)

pub returns-in-Some-clause-name : goal.returns-in-Some-clause-name
returns-in-Some-clause-name c = name_found _ c.cut.result.name.now c.cut.ensures.name

pub loop-place-preserved : goal.loop-place-preserved
loop-place-preserved c =
    let text = c.args.text.now in
    let place = c.loop-place.place in
    let rest : take (length c.as_bytes-bytes.result.now - place) (drop place c.as_bytes-bytes.result.now) ≡ drop place text = take_rest c.as_bytes-bytes.result.now place ∙ ap (drop place) c.as_bytes-bytes.ensures.value in
    let none : option_map length (reference_at (drop place text)) ≡ None = ap (λ t. option_map length (reference_at t)) (sym rest) ∙ sym c.in_default.ensures in
    pieces_more text place (pieces text) (omega arith) none c.loop-place.invariant

pub returns-clause-first : goal.returns-clause-first
returns-clause-first c = pieces_none c.args.text.now c.loop-place.place (pieces c.args.text.now) (omega arith) c.loop-place.invariant
