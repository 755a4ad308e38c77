use Rattle.std.proofs.Common.{◌≡◌}
use Rattle.cfa_edits.specs.declared.edits.Edit.TheVariants.{Field}
use Rattle.cfa_edit_proof.specs.Steps.{NoneClash}
use Rattle.cfa_edit_proof.proofs.search.first_wanting.Given as goal

abbrev pub invariant-loop-place : goal.invariant-loop-place
invariant-loop-place l =
    NoneClash (Field l.fn.matcher l.separator l.number l.value) l.edits l.from l.place × (l.matcher ≡ l.fn.matcher)
