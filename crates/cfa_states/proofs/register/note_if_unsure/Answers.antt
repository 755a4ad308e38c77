use Rattle.std.proofs.Common.{refl}
use Rattle.std.proofs.lemmas.Result.{on_ok_weaker}
use Rattle.cfa_states.proofs.PlaceLemmas.{notes_place}
use Rattle.cfa_states.proofs.register.note_if_unsure.Goals as goal

pub returns-in_ok-text-in-Maybe-clause-ok : goal.returns-in_ok-text-in-Maybe-clause-ok
returns-in_ok-text-in-Maybe-clause-ok c =
    on_ok_weaker c.note.result (λ is.
    notes_place c.args.places.now c.args.instance.now c.args.place c.note.new.self c.in_ok-path-in-Maybe.path c.in_ok-text-in-Maybe.text c.args.place
    c.in_ok-path-in-Maybe.ensures c.in_ok-text-in-Maybe.ensures refl is)
    c.note.ensures.ok
