use Rattle.std.proofs.Common.{◌∙◌, ap, map, refl}
use Rattle.cfa_tree.specs.declared.blocks.Block.TheVariants.{Bundle}
use Rattle.cfa_tree.specs.Plain.{plain_block}
use Rattle.cfa_base.specs.Index.{place_of}
use Rattle.std.specs.Prelude.{is_none}
use Rattle.cfa_calls.specs.Cycles.{seen_call}
use Rattle.cfa_schema.specs.Valid.{calls_in_block}
use Rattle.cfa_schema.proofs.CallLemmas.{first_added, later_passed}
use Rattle.cfa_schema.proofs.bundle_calls.add_if_first.Goals as goal

pub returns-in_ok-add_of_bundle-clause-calls : goal.returns-in_ok-add_of_bundle-clause-calls
returns-in_ok-add_of_bundle-clause-calls c =
    first_added c.args.names.now c.args.bundle.now.name.name c.in_ok-is_first.is_first (map seen_call c.args.calls.now.items) (calls_in_block (plain_block (Bundle c.args.bundle.now)))
    (map seen_call c.add_of_bundle.new.calls.items)
    (c.in_ok-is_first.ensures.answer ∙ ap (λ name. is_none (place_of c.args.names.now name)) c.as_str.ensures) c.if-is_first.true c.in_ok-add_of_bundle.ensures

pub returns-else-is_first-clause-calls : goal.returns-else-is_first-clause-calls
returns-else-is_first-clause-calls c =
    later_passed c.args.names.now c.args.bundle.now.name.name c.in_ok-is_first.is_first (map seen_call c.args.calls.now.items) (calls_in_block (plain_block (Bundle c.args.bundle.now)))
    (map seen_call c.args.calls.now.items)
    (c.in_ok-is_first.ensures.answer ∙ ap (λ name. is_none (place_of c.args.names.now name)) c.as_str.ensures) c.if-is_first.false refl
