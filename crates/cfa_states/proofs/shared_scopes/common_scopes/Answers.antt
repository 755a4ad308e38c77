use Rattle.std.proofs.Common.{◌∙◌, [], sym, ap, map}
use Rattle.std.proofs.lemmas.List.{drop_all}
use Rattle.cfa_vars.specs.Shared.{begun_each}
use Rattle.cfa_states.specs.Numbered.{name_of}
use Rattle.cfa_states.proofs.SharedLemmas.{held_name, names_held}
use Rattle.cfa_states.proofs.shared_scopes.common_scopes.Goals as goal

pub returns : goal.returns
returns c =
    let items = c.as_slice-bundle-items.result.now in
    ap (λ left. begun_each c.loop-bundle.scopes (map held_name left)) (sym (drop_all c.loop-bundle.bundle-index items c.loop-bundle-test.false))
    ∙ c.loop-bundle.invariant
    ∙ ap (begun_each []) (ap (map held_name) c.as_slice-bundle-items.ensures.value ∙ sym (names_held c.in_ok-bundles.bundles.items) ∙ ap (map name_of) c.in_ok-bundles.ensures)
