use Rattle.std.proofs.Common.{◌≡◌, ℕ, Bool, List}
use Rattle.std.specs.Str.{chars}
use Rattle.cfa_base.specs.Patterns.{PatternText}
use Rattle.cfa_edits.specs.declared.edits.Edit.TheVariants.{Replace}
use Rattle.cfa_edit_proof.specs.Steps.{NoneClash}
use Rattle.cfa_edit_proof.proofs.search.first_writing.Given as goal

abbrev pub invariant-loop-place : goal.invariant-loop-place
invariant-loop-place l =
    (text : PatternText) (value : List ℕ) (all : Bool) → chars text.text ≡ l.pattern → NoneClash (Replace text value all) l.edits l.from l.place
