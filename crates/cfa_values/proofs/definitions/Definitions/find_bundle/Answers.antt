use Rattle.std.proofs.Common.{◌∙◌, ap}
use Rattle.std.specs.Prelude.{slice_get}
use Rattle.std.specs.Str.{bytes_eq}
use Rattle.cfa_base.specs.Index.{place_of}
use Rattle.cfa_values.specs.Definitions.{Definitions, bundle_named}
use Rattle.cfa_values.specs.Kept.{seen_bundle, bundle_key}
use Rattle.cfa_values.proofs.LookupLemmas.{found_none, found_some}
use Rattle.cfa_values.proofs.definitions.Definitions.find_bundle.Goals as goal

pub returns-in-Some : goal.returns-in-Some
returns-in-Some c =
    let name = c.args.name.now in
    let at = c.find.ensures ∙ ap (λ names. place_of names name) c.self.invariant.0 in
    let answer = c.bundle_at.ensures ∙ ap (λ bundles. slice_get bundles c.in-Some.place) c.deref.ensures.value in
    found_some bundle_key (λ other. bytes_eq name other) seen_bundle c.self.inside.bundles.items c.find.result c.in-Some.place c.bundle_at.result at c.in-Some.is answer
    ∙ ap (λ (definitions : Definitions). bundle_named definitions name) c.self.view_is

pub returns-in-None : goal.returns-in-None
returns-in-None c =
    let name = c.args.name.now in
    let at = c.find.ensures ∙ ap (λ names. place_of names name) c.self.invariant.0 in
    found_none bundle_key (λ other. bytes_eq name other) _ c.find.result at c.in-None.is
    ∙ ap (λ (definitions : Definitions). bundle_named definitions name) c.self.view_is
