-- The setting of a run, as contracts see it: a checked policy in a context.
use Rattle.cfa_schema.specs.declared.checked.Checked.{Checked}
use Rattle.cfa_schema.specs.Seen.{tree_of}
use Rattle.cfa_walk.specs.declared.contexts.Context.{Context}
use Rattle.cfa_states.specs.Views.{Setting}

abbrev pub setting_of : Checked → Context → Setting
setting_of checked context = record { policy = tree_of checked; classes = context.classes }
