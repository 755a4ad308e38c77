use Rattle.std.proofs.Common.{rules, ◌∷◌, [], ◌∙◌, ap, map, Bor, ℕ, List}
use Rattle.std.proofs.lemmas.List.{map-append}
use Rattle.cfa_lines.proofs.DeckLemmas.{keeps_last, drops_last}
use Rattle.cfa_lines.proofs.deck.without_empty_last.Goals as goal

pub returns-then-is_empty : goal.returns-then-is_empty
returns-then-is_empty c =
    let texts = λ (parts : List (Bor (List ℕ))). map (λ part. part.now) parts in
    let cut = ap texts c.in-Some.ensures.cases.0 ∙ map-append (λ part. part.now) c.in-Some.rest.now (c.in-Some.last.now ∷ []) in
    drops_last _ _ c.in-Some.last.now.now cut (search rules)

pub returns-else-is_empty : goal.returns-else-is_empty
returns-else-is_empty c =
    let texts = λ (parts : List (Bor (List ℕ))). map (λ part. part.now) parts in
    let cut = ap texts c.in-Some.ensures.cases.0 ∙ map-append (λ part. part.now) c.in-Some.rest.now (c.in-Some.last.now ∷ []) in
    cut ∙ keeps_last _ _ c.in-Some.last.now.now cut (search rules)
