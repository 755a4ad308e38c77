use Rattle.std.proofs.Common.{◌∙◌, ap, map, sym, Some, None}
use Rattle.std.specs.Prelude.{option_map}
use Rattle.std.specs.List.{flat_map}
use Rattle.cfa_tree.specs.declared.blocks.Block.TheVariants.{Bundle}
use Rattle.cfa_tree.specs.Plain.{plain_block, plain_section}
use Rattle.cfa_served.specs.Checked.{worded_promises_of}
use Rattle.cfa_served.proofs.NumberLemmas.{promises_found}
use Rattle.cfa_served.proofs.promise_ids.sections_of.Goals as goal

pub returns-in-Some : goal.returns-in-Some
returns-in-Some c =
    ap (λ sections. flat_map worded_promises_of (map plain_section sections)) c.as_slice.ensures
    ∙ promises_found c.args.name.now (map plain_block c.args.blocks.now) (Some (plain_block (Bundle c.in-Some.bundle.now)))
    (sym (ap (option_map (λ bundle. plain_block (Bundle bundle.now))) c.in-Some.is) ∙ c.bundle.ensures)

pub returns-in-None : goal.returns-in-None
returns-in-None c =
    promises_found c.args.name.now (map plain_block c.args.blocks.now) None
    (sym (ap (option_map (λ bundle. plain_block (Bundle bundle.now))) c.in-None.is) ∙ c.bundle.ensures)
