use Rattle.std.proofs.Common.{◌≡◌, ◌≤◌, List, IfOk, get_or, map, subst, sym}
use Rattle.std.proofs.Math.Bridge.{le_prop}
use Rattle.std.proofs.Math.Logic.{∥∥₁_elim}
use Rattle.cfa_base.specs.declared.limits.TheConstants.{MOST_SOURCE_BYTES}
use Rattle.cfa_tree.specs.declared.blocks.Block.{Block}
use Rattle.cfa_tree.specs.Plain.{plain_block, plain_policy}
use Rattle.cfa_served.specs.Checked.{promise_ids_of, HasFew, promise_count}
use Rattle.cfa_schema.specs.Seen.{tree_of}
use Rattle.cfa_schema.proofs.SizeLemmas.{sourced_has_few}
use Rattle.cfa_schema.proofs.checked.Checked.promise_ids.Goals as goal

pub list_ids-requires : goal.list_ids-requires
list_ids-requires c =
    let policy = plain_policy c.args.self.now.policy in
    subst (λ (blocks : List Block). HasFew MOST_SOURCE_BYTES (map plain_block blocks)) (sym c.as_slice.ensures)
    (λ k d h. ∥∥₁_elim {P = promise_count (get_or policy k d) ≤ MOST_SOURCE_BYTES} c.args.self.now.valid (λ x y. le_prop x y) (λ v. sourced_has_few policy v.1 k d h))

pub returns : goal.returns
unfolding tree_of
returns c =
    subst (λ (blocks : List Block). IfOk c.list_ids.result (λ ids. ids.items ≡ promise_ids_of (map plain_block blocks))) c.as_slice.ensures c.list_ids.ensures
