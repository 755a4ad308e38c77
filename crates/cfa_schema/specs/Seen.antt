-- A policy that was checked, as contracts see it.
use Rattle.cfa_tree.specs.Plain.{plain_policy}
use Rattle.cfa_tree.specs.Tree.{PolicyTree}
use Rattle.cfa_schema.specs.declared.checked.Checked.{Checked}

unfoldable pub tree_of : Checked → PolicyTree
tree_of checked = plain_policy checked.policy
