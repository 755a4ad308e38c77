use Rattle.std.proofs.Common.{◌+◌, drop, sym, ap, ◌∙◌, arith}
use Rattle.std.specs.List.{flat_map}
use Rattle.cfa_vars.specs.References.{names_in}
use Rattle.cfa_vars.specs.Scopes.{in_scope}
use Rattle.cfa_vars.specs.Choices.{first_unset}
use Rattle.cfa_vars.proofs.ChoiceLemmas.{unset_in_first, unset_behind_first, front_item}
use Rattle.cfa_vars.proofs.choosing.first_unset.Goals as goal

pub returns-in-Some : goal.returns-in-Some
returns-in-Some c =
    let scopes = in_scope c.args.scopes.now in
    let texts = c.args.texts.now in
    let rest = drop (c.loop-text.text-index + 1) texts in
    let front = front_item texts c.loop-text.text-index c.text-item.result (omega arith) c.text-item.is in
    let here = c.in-Some.ensures ∙ ap (λ t. first_unset scopes (names_in t)) c.as_str.ensures in
    sym (unset_in_first scopes c.text-item.result rest c.in-Some.name.now (sym here)) ∙ ap (λ ts. first_unset scopes (flat_map names_in ts)) (sym front) ∙ c.loop-text.invariant

pub loop-text-preserved : goal.loop-text-preserved
loop-text-preserved c =
    let scopes = in_scope c.args.scopes.now in
    let texts = c.args.texts.now in
    let rest = drop (c.loop-text.text-index + 1) texts in
    let front = front_item texts c.loop-text.text-index c.text-item.result (omega arith) c.text-item.is in
    let here = c.in_default.ensures ∙ ap (λ t. first_unset scopes (names_in t)) c.as_str.ensures in
    sym (unset_behind_first scopes c.text-item.result rest (sym here)) ∙ ap (λ ts. first_unset scopes (flat_map names_in ts)) (sym front) ∙ c.loop-text.invariant
