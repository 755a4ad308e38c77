use Rattle.std.proofs.Common.{◌∙◌, ap, sym, map, None}
use Rattle.std.proofs.lemmas.Result.{on_ok_weaker}
use Rattle.cfa_tree.specs.Plain.{plain_named, plain_section}
use Rattle.cfa_kinds.specs.Kinds.{bundle_type, is_foreign_bundle_type}
use Rattle.cfa_values.specs.Scope.{in_bundle}
use Rattle.cfa_values.specs.Refusals.{noted}
use Rattle.cfa_schema.specs.Valid.{other_type, bundle_by}
use Rattle.cfa_values.specs.Values.{repeated}
use Rattle.cfa_schema.proofs.BlockLemmas.{noted_by, bundle_noted}
use Rattle.cfa_schema.proofs.blocks.note_bundle.Goals as goal

pub returns-in-Some : goal.returns-in-Some
returns-in-Some c =
    let own = c.args.bundle.now in
    on_ok_weaker c.note_sections.result
    (bundle_noted c.args.definitions.now (plain_named own.kind) own.name.name c.as_str.result.now (map plain_section own.sections) (map plain_section c.as_slice-sections.result.now) c.in-Some.bundle_type
    (repeated (map plain_named own.params)) c.args.first.now c.note_params.new.first c.note_sections.new.first
    c.as_str.ensures (ap (map plain_section) c.as_slice-sections.ensures) (sym c.in-Some.is ∙ c.bundle_type.ensures ∙ ap bundle_type c.as_str-kind.ensures)
    (c.in_ok-note_params.ensures ∙ ap (λ ps. noted c.args.first.now (repeated (map plain_named ps))) c.as_slice.ensures))
    c.note_sections.ensures

pub returns-in-None : goal.returns-in-None
returns-in-None c =
    let own = c.args.bundle.now in
    noted_by (bundle_by (record { definitions = c.args.definitions.now; home = in_bundle own.name.name }) (plain_named own.kind) (map plain_section own.sections)) None (bundle_type own.kind.name)
    (repeated (map plain_named own.params)) c.args.first.now c.note_params.new.first c.note_other_type.new.first
    (sym c.in-None.is ∙ c.bundle_type.ensures ∙ ap bundle_type c.as_str-kind.ensures)
    (c.in_ok-note_params.ensures ∙ ap (λ ps. noted c.args.first.now (repeated (map plain_named ps))) c.as_slice.ensures)
    (c.note_other_type.ensures ∙ ap (λ b. noted c.note_params.new.first (other_type b own.kind.place)) (c.is_foreign_bundle_type.ensures ∙ ap is_foreign_bundle_type c.as_str-kind.ensures))
