use Rattle.std.proofs.Common.{ℕ, List, Option, unwrap_or, ap, ◌∙◌}
use Rattle.cfa_base.specs.Index.{pair_place_of}
use Rattle.cfa_states.proofs.FirstPlaces.{place_is}
use Rattle.cfa_states.proofs.logs.first_of.Goals as goal

pub returns : goal.returns
returns c = λ xs names.
    c.unwrap_or.ensures
    ∙ ap (λ (o : Option ℕ). unwrap_or o 0)
    (c.find.ensures
    ∙ ap (λ (all : List (List ℕ × List ℕ)). pair_place_of all (c.args.path.now, c.args.text.now)) names
    ∙ place_is c.args.path.now c.args.text.now xs)
