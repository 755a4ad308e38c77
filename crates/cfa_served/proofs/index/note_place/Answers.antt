use Rattle.std.proofs.Common.{◌∙◌, ap, sym}
use Rattle.std.specs.Prelude.{is_some}
use Rattle.std.specs.FinMap as finite
use Rattle.std.proofs.lemmas.Result.{on_ok_weaker}
use Rattle.cfa_served.proofs.IndexLemmas.{copied_some, place_put}
use Rattle.cfa_served.proofs.index.note_place.Goals as goal

pub returns : goal.returns
returns c =
    let none = ap is_some (sym c.get.ensures) ∙ copied_some c.get.result ∙ sym c.is_some.ensures ∙ c.if-is_some.false in
    on_ok_weaker c.insert.result
    (λ is. place_put c.args.places.now c.insert.new.self c.args.name.now c.args.place none (is ∙ ap (λ key. finite.insert c.args.places.now key c.args.place) c.in_ok-from_text.ensures))
    c.insert.ensures.ok
