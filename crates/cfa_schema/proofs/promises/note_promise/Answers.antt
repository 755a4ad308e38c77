use Rattle.std.proofs.Common.{ap, map}
use Rattle.std.specs.Prelude.{option_map, option_copied}
use Rattle.std.proofs.lemmas.Result.{on_ok_weaker}
use Rattle.cfa_tree.specs.Plain.{plain_attribute, plain_value, plain_promise}
use Rattle.cfa_values.specs.Seen.{seen_context}
use Rattle.cfa_schema.proofs.PromiseLemmas.{promise_noted}
use Rattle.cfa_schema.proofs.promises.note_promise.Goals as goal

pub returns : goal.returns
returns c =
    on_ok_weaker c.note_attributes.result
    (promise_noted (seen_context c.args.context.now) c.args.promise_type (plain_promise c.args.promise.now)
    c.as_str-promiser.result.now (option_map plain_value (option_copied c.as_ref.result)) (map plain_attribute c.as_slice-attributes.result.now)
    c.is_wrong_promiser.result c.lacks_choice.result c.args.first.now c.note_if.new.first c.note_text_scope.new.first c.note_if-2.new.first c.note_promisee.new.first c.note_attributes.new.first
    c.as_str-promiser.ensures (ap (option_map plain_value) c.as_ref.ensures.value) (ap (map plain_attribute) c.as_slice-attributes.ensures)
    c.is_wrong_promiser.ensures c.lacks_choice.ensures c.note_if.ensures c.note_text_scope.ensures c.note_if-2.ensures c.in_ok-note_promisee.ensures)
    c.note_attributes.ensures
