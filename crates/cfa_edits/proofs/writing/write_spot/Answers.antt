use Rattle.std.proofs.Common.{[], ◌∷◌, ◌++◌, sym, ap, ◌∙◌}
use Rattle.std.specs.String.{string_bytes}
use Rattle.std.proofs.lemmas.List.{append_assoc}
use Rattle.cfa_base.specs.Escapes.{escaped}
use Rattle.cfa_base.specs.lemmas.Escapes.{escaped-nil}
use Rattle.cfa_edits.specs.declared.edits.Spot.{Spot}
use Rattle.cfa_edits.specs.Scripts.{spot_name, spot_pattern}
use Rattle.cfa_edits.proofs.writing.write_spot.Goals as goal

pub returns-in-Start : goal.returns-in-Start
returns-in-Start c =
    let text = string_bytes c.args.text.now in
    let word = spot_name c.args.spot.now in
    c.in_ok-push_str-2.ensures.bytes
    ∙ ap (λ t. t ++ 58 ∷ []) (c.in_ok-push_str.ensures.bytes ∙ ap (λ w. text ++ w) c.word_of.ensures)
    ∙ append_assoc text word (58 ∷ [])
    ∙ ap (λ e. text ++ (word ++ 58 ∷ e)) (sym escaped-nil ∙ ap (λ (s : Spot). escaped (spot_pattern s)) (sym c.in-Start.is))

pub returns-in-End : goal.returns-in-End
returns-in-End c =
    let text = string_bytes c.args.text.now in
    let word = spot_name c.args.spot.now in
    c.in_ok-push_str-2.ensures.bytes
    ∙ ap (λ t. t ++ 58 ∷ []) (c.in_ok-push_str.ensures.bytes ∙ ap (λ w. text ++ w) c.word_of.ensures)
    ∙ append_assoc text word (58 ∷ [])
    ∙ ap (λ e. text ++ (word ++ 58 ∷ e)) (sym escaped-nil ∙ ap (λ (s : Spot). escaped (spot_pattern s)) (sym c.in-End.is))
