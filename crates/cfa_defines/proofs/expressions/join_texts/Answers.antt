use Rattle.std.proofs.Common.{◌∙◌, ◌+◌, ◌∷◌, ap, sym, map, drop}
use Rattle.std.proofs.lemmas.List.{drop_more}
use Rattle.cfa_defines.specs.ClassPromises.{joined, text_said}
use Rattle.cfa_defines.specs.OfTheCode.{operation, together, status_of}
use Rattle.cfa_defines.proofs.SaidLemmas.{joined_more}
use Rattle.cfa_defines.proofs.expressions.join_texts.Goals as goal

pub loop-text-preserved : goal.loop-text-preserved
loop-text-preserved c =
    let join = c.args.join in
    let said_in = text_said (status_of c.args.context.now) in
    let behind = drop (c.loop-text.text-index + 1) c.args.texts.now in
    let here = drop_more c.args.texts.now c.loop-text.text-index c.text-item.result c.loop-text-test.true in
    ap (λ s. joined (operation join) s (together join (map said_in behind))) (c.join-said.ensures ∙ ap (joined (operation join) c.loop-text.said) c.in_ok-next.ensures)
    ∙ joined_more join c.loop-text.said (said_in c.text-item.result) (map said_in behind)
    ∙ ap (λ t. joined (operation join) c.loop-text.said (together join (map said_in (t ∷ behind)))) c.text-item.is
    ∙ ap (λ ts. joined (operation join) c.loop-text.said (together join (map said_in ts))) (sym here)
    ∙ c.loop-text.invariant
