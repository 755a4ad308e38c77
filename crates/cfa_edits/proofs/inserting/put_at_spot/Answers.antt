use Rattle.std.proofs.Common.{◌≡◌, Some, None, Ok, sym, ap, ◌∙◌}
use Rattle.std.proofs.lemmas.Result.{on_ok_weaker}
use Rattle.cfa_edits.specs.Edits.{spot_in, put_at}
use Rattle.cfa_edits.specs.Steps.{lines_lent}
use Rattle.cfa_edits.proofs.inserting.put_at_spot.Goals as goal

pub returns-in_default-clause-refused : goal.returns-in_default-clause-refused
returns-in_default-clause-refused c =
    let lines = c.args.deck.now.lines in
    let place : spot_in lines c.args.spot.now ≡ None = sym c.in_ok-place.ensures.ok ∙ c.in_default.is in
    ap (λ p. put_at p (lines_lent c.args.lines.now) lines) place

pub returns-clause-ok : goal.returns-clause-ok
returns-clause-ok c =
    let lines = c.args.deck.now.lines in
    let place : spot_in lines c.args.spot.now ≡ Some c.in-Some.place = sym c.in_ok-place.ensures.ok ∙ c.in-Some.is in
    on_ok_weaker c.put_in.result
    (λ put. ap (λ p. put_at p (lines_lent c.args.lines.now) lines) place ∙ ap Ok (sym (rw (c.go_to.ensures, c.place_in.ensures.deck) at put)))
    c.put_in.ensures.ok
