-- The types of a walk of an edit bundle, of what it left inside, and of a raise with the origin that it hands. They have no names
-- outside of their crate: they are what the definitions of the walk give.
use Rattle.std.specs.Prelude.{ℕ, List, Option}
use Rattle.cfa_statuses.specs.declared.levels.Status.{Status}
use Rattle.cfa_defines.specs.ClassPromises.{Raise}
use Rattle.cfa_scripts.specs.EditBundles.{Around, inside_at_first, walk_at_first, handed_raise}

abbrev Given : {A B : Type 0} → (A → B) → Type 0
Given {B = B} f = B

abbrev pub Inside : Type 0
Inside = Given inside_at_first

abbrev pub Walk : Type 0
Walk = Given walk_at_first

abbrev Handed : {B : Type 0} → (Around → Inside → Status → Option (List ℕ) → Raise → B) → Type 0
Handed {B = B} f = B

abbrev pub HandedRaise : Type 0
HandedRaise = Handed handed_raise
