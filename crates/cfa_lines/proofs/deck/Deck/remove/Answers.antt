use Rattle.std.proofs.Common.{rules, ◌≡◌, ◌∷◌, ◌++◌, [], sym, ap, ◌∙◌, length, vec_len}
use Rattle.std.specs.Option.{option_to_list}
use Rattle.cfa_lines.specs.Decks.{lines_at}
use Rattle.cfa_lines.proofs.DeckLemmas.{remove_top}
use Rattle.cfa_lines.proofs.deck.Deck.remove.Goals as goal

pub returns : goal.returns
returns c =
    let before = c.self.inside.before in
    let left = c.pop.new.self.items in
    let items : c.self.inside.after.items ≡ left ++ c.unwrap-line.result ∷ [] =
    c.pop.ensures.items ∙ ap (λ o. left ++ option_to_list o) c.unwrap-line.ensures in
    let count : vec_len before ≡ length before.items = search rules in
    rw (← c.self.view_is) (rw items (ap (λ lines. lines_at lines (vec_len before)) (sym (remove_top before.items left c.unwrap-line.result (vec_len before) count))))
