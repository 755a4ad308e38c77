use Rattle.std.proofs.Common.{◌∙◌, ap, sym, map, None}
use Rattle.std.proofs.lemmas.Result.{on_ok_weaker}
use Rattle.cfa_tree.specs.Plain.{plain_attribute, plain_named}
use Rattle.cfa_kinds.specs.Kinds.{body_type, is_foreign_body_type}
use Rattle.cfa_values.specs.Values.{name_in, repeated}
use Rattle.cfa_values.specs.Scope.{in_body}
use Rattle.cfa_values.specs.Refusals.{noted}
use Rattle.cfa_schema.specs.Valid.{other_type, body_by}
use Rattle.cfa_schema.proofs.BlockLemmas.{noted_by, body_noted}
use Rattle.cfa_schema.proofs.blocks.note_body.Goals as goal

pub returns-in_ok-names-in-Some : goal.returns-in_ok-names-in-Some
returns-in_ok-names-in-Some c =
    let own = c.args.body.now in
    on_ok_weaker c.note_body_of.result
    (body_noted c.args.definitions.now (plain_named own.kind) (plain_named own.name) (map name_in (map plain_named own.params)) c.in_ok-names-in-Some.names (map plain_attribute own.attributes) c.in-Some.body_type
    (repeated (map plain_named own.params)) c.args.first.now c.note_params.new.first c.note_body_of.new.first
    (c.in_ok-names-in-Some.ensures ∙ ap (λ ps. map name_in (map plain_named ps)) c.as_slice-params.ensures)
    (sym c.in-Some.is ∙ c.body_type.ensures ∙ ap body_type c.as_str-kind.ensures)
    (c.in_ok-note_params.ensures ∙ ap (λ ps. noted c.args.first.now (repeated (map plain_named ps))) c.as_slice-params.ensures))
    c.note_body_of.ensures

pub returns-in-None : goal.returns-in-None
returns-in-None c =
    let own = c.args.body.now in
    noted_by (body_by (record { definitions = c.args.definitions.now; home = in_body (map name_in (map plain_named own.params)) }) (plain_named own.kind) (plain_named own.name) (map plain_attribute own.attributes)) None (body_type own.kind.name)
    (repeated (map plain_named own.params)) c.args.first.now c.note_params.new.first c.note_other_type.new.first
    (sym c.in-None.is ∙ c.body_type.ensures ∙ ap body_type c.as_str-kind.ensures)
    (c.in_ok-note_params.ensures ∙ ap (λ ps. noted c.args.first.now (repeated (map plain_named ps))) c.as_slice-params.ensures)
    (c.note_other_type.ensures ∙ ap (λ b. noted c.note_params.new.first (other_type b own.kind.place)) (c.is_foreign_body_type.ensures ∙ ap is_foreign_body_type c.as_str-kind.ensures))
