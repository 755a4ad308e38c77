use Rattle.std.proofs.Common.{ap, ◌∙◌}
use Rattle.cfa_base.specs.declared.places.Place.{Place}
use Rattle.cfa_base.specs.Lexing.{place_after}
use Rattle.cfa_base.specs.lemmas.EndPlaces.{end_place_is}
use Rattle.cfa_lexer.proofs.lexing.end_place.Goals as goal

pub returns-clause-line : goal.returns-clause-line
returns-clause-line c = ap (λ (p : Place). p.line) (c.place_after.ensures ∙ (ap (λ p. place_after p c.args.source.now) c.first_place.ensures ∙ end_place_is c.args.file c.args.source.now))

pub returns-clause-column : goal.returns-clause-column
returns-clause-column c = ap (λ (p : Place). p.col) (c.place_after.ensures ∙ (ap (λ p. place_after p c.args.source.now) c.first_place.ensures ∙ end_place_is c.args.file c.args.source.now))
