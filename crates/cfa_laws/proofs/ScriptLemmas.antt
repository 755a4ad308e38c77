-- What a walk of an edit bundle comes to: where it is a script, each of its edits is one, and deletes come first, then field edits,
-- inserts and replaces.
use Rattle.std.proofs.Common.{List, Option, Some, None}
use Rattle.cfa_edits.specs.Scripts.{AreEdits}
use Rattle.cfa_vars.specs.Scopes.{Table}
use Rattle.cfa_scripts.specs.declared.scripting.Scripted.{Scripted}
use Rattle.cfa_scripts.specs.declared.scripting.Scripted.TheVariants.{Script as a_script, Unresolved as no_script, TooMany as script_many, TooLong as script_long, BadPattern as script_bad_pattern, BadValue as script_bad_value}
use Rattle.cfa_scripts.specs.Numbered.{Numbered}
use Rattle.cfa_scripts.specs.EditBundles.{Around, walk_at_first, walked_from}
use Rattle.cfa_scripts.specs.EditScripts.{concluded, in_order}
use Rattle.cfa_scripts.specs.lemmas.Ordered.{script_edits, concluded_is}

-- a script is one in order
abbrev pub IsScripted : Scripted → Type 0
IsScripted (a_script edits) = AreEdits edits
IsScripted (no_script name) = Unit {0}
IsScripted script_many = Unit {0}
IsScripted script_long = Unit {0}
IsScripted script_bad_pattern = Unit {0}
IsScripted script_bad_value = Unit {0}

abbrev pub MayBeScripted : Option Scripted → Type 0
MayBeScripted None = Unit {0}
MayBeScripted (Some scripted) = IsScripted scripted

-- what the walk of an edit bundle comes to
pub walk_scripted : (around : Around) (params : Table) (ps : List Numbered) → IsScripted (concluded (walked_from around (walk_at_first params) (in_order ps)).edits)
walk_scripted around params ps =
    concluded_is IsScripted (λ name. tt) tt tt tt tt (walked_from around (walk_at_first params) (in_order ps)).edits (script_edits around params ps)
