use Rattle.std.proofs.Common.{rules, ◌≡◌, ◌+◌, ◌∷◌, ◌++◌, [], sym, ap, ◌∙◌, length, vec_len}
use Rattle.std.specs.Option.{option_to_list}
use Rattle.cfa_lines.specs.Decks.{lines_at}
use Rattle.cfa_lines.proofs.DeckLemmas.{put_top}
use Rattle.cfa_lines.proofs.deck.Deck.put.Goals as goal

pub returns : goal.returns
returns c =
    let before = c.self.inside.before in
    let left = c.pop.new.self.items in
    let old = c.unwrap-replaced.result in
    let items : c.self.inside.after.items ≡ left ++ old ∷ [] =
    c.pop.ensures.items ∙ ap (λ o. left ++ option_to_list o) c.unwrap-replaced.ensures in
    let count : vec_len before ≡ length before.items = search rules in
    let pushed : c.push.new.self.items ≡ before.items ++ c.args.line ∷ [] = search rules in
    let long : vec_len c.push.new.self ≡ vec_len before + 1 = search rules in
    rw (← c.self.view_is)
    (rw (items, pushed, long) (ap (λ lines. lines_at lines (vec_len before + 1)) (sym (put_top before.items left old c.args.line (vec_len before) count))))
