use Rattle.std.proofs.Common.{◌∙◌, ap, List, ℕ}
use Rattle.std.specs.Prelude.{slice_get}
use Rattle.cfa_base.specs.Index.{pair_place_of, same_pair}
use Rattle.cfa_values.specs.Definitions.{Definitions, body_named}
use Rattle.cfa_values.specs.Kept.{seen_body, body_key}
use Rattle.cfa_values.proofs.LookupLemmas.{found_none, found_some}
use Rattle.cfa_values.proofs.definitions.Definitions.find_body.Goals as goal

pub returns-in-Some : goal.returns-in-Some
returns-in-Some c =
    let pair : List ℕ × List ℕ = (c.args.type_word.now, c.args.name.now) in
    let at = c.find.ensures ∙ ap (λ names. pair_place_of names pair) c.self.invariant.1 in
    let answer = c.body_at.ensures ∙ ap (λ bodies. slice_get bodies c.in-Some.place) c.deref.ensures.value in
    found_some body_key (λ other. same_pair pair other) seen_body c.self.inside.bodies.items c.find.result c.in-Some.place c.body_at.result at c.in-Some.is answer
    ∙ ap (λ (definitions : Definitions). body_named definitions c.args.type_word.now c.args.name.now) c.self.view_is

pub returns-in-None : goal.returns-in-None
returns-in-None c =
    let pair : List ℕ × List ℕ = (c.args.type_word.now, c.args.name.now) in
    let at = c.find.ensures ∙ ap (λ names. pair_place_of names pair) c.self.invariant.1 in
    found_none body_key (λ other. same_pair pair other) _ c.find.result at c.in-None.is
    ∙ ap (λ (definitions : Definitions). body_named definitions c.args.type_word.now c.args.name.now) c.self.view_is
