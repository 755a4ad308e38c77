-- The table of which act disturbs which, and what edits need, at hand-made rows. No row has a pattern to match.
use Rattle.std.proofs.Common.{◌≡◌, ℕ, List, [], ◌∷◌, Option, Some, None, true, false, refl}
use Rattle.std.specs.Prelude.{codes}
use Rattle.std.specs.Str.{chars, is_utf8}
use Rattle.cfa_base.specs.Escapes.{escaped}
use lib.Utf8.{encode}
use Rattle.cfa_edits.specs.declared.edits.Edit as script
use Rattle.cfa_edits.specs.declared.edits.Edit.TheVariants.{Insert}
use Rattle.cfa_edits.specs.declared.edits.Spot.TheVariants.{Start as AtStart, End as AtEnd}
use Rattle.cfa_edits.specs.Scripts.{script_text}
use Rattle.cfa_outside.specs.declared.worlds.Node.{Node}
use Rattle.cfa_outside.specs.declared.worlds.Node.TheVariants.{File, Dir}
use Rattle.cfa_outside.specs.declared.sites.Change.TheVariants.{PutFile}
use Rattle.cfa_acts.specs.declared.acts.Act.TheVariants.{Create, MakeDir, Delete, Content, Copy, Edit, Perms, Start, Stop, Enable, Disable, Restart, Bust}
use Rattle.cfa_acts.specs.declared.acts.Reason.TheVariants.{Missing, Obstructed, NotText, BadValue}
use Rattle.cfa_acts.specs.declared.acts.Decision.TheVariants.{Needs, Fail}
use Rattle.cfa_acts.specs.Disturbs.{disturbs}
use Rattle.cfa_acts.specs.Settling.{leaves, is_settled, edits, keeps_content}
use Rattle.cfa_outside.specs.Worlds.{is_below, root_perms}

made_beneath : disturbs (Create (codes "/a/b")) (Delete (codes "/a") true) ≡ true
unfolding disturbs is_below
made_beneath = refl

made_beside : disturbs (MakeDir (codes "/ab")) (Delete (codes "/a") true) ≡ false
unfolding disturbs is_below
made_beside = refl

made_above : disturbs (MakeDir (codes "/a")) (Delete (codes "/a/b") false) ≡ false
unfolding disturbs is_below
made_above = refl

copied_there : disturbs (Copy (codes "/s") (codes "/a")) (Delete (codes "/a") true) ≡ true
unfolding disturbs is_below
copied_there = refl

copied_from_there : disturbs (Copy (codes "/a") (codes "/s")) (Delete (codes "/a") true) ≡ false
unfolding disturbs is_below
copied_from_there = refl

deleted : disturbs (Delete (codes "/a") false) (Create (codes "/a")) ≡ true
unfolding disturbs
deleted = refl

deleted_above : disturbs (Delete (codes "/a") true) (Create (codes "/a/b")) ≡ false
unfolding disturbs
deleted_above = refl

other_content : disturbs (Content (codes "/a") (codes "w")) (Content (codes "/a") (codes "v")) ≡ true
unfolding disturbs
other_content = refl

same_content : disturbs (Content (codes "/a") (codes "v")) (Content (codes "/a") (codes "v")) ≡ false
unfolding disturbs
same_content = refl

source_changed : disturbs (Content (codes "/s") (codes "v")) (Copy (codes "/s") (codes "/a")) ≡ true
unfolding disturbs
source_changed = refl

same_copy : disturbs (Copy (codes "/s") (codes "/a")) (Copy (codes "/s") (codes "/a")) ≡ false
unfolding disturbs
same_copy = refl

copied_back : disturbs (Copy (codes "/a") (codes "/s")) (Copy (codes "/s") (codes "/a")) ≡ true
unfolding disturbs
copied_back = refl

other_mode : disturbs (Perms (codes "/a") (Some 420) [] []) (Perms (codes "/a") (Some 384) [] []) ≡ true
unfolding disturbs
other_mode = refl

mode_of_one : disturbs (Perms (codes "/a") None (codes "x" ∷ []) []) (Perms (codes "/a") (Some 384) [] []) ≡ false
unfolding disturbs
mode_of_one = refl

other_owners : disturbs (Perms (codes "/a") None (codes "x" ∷ []) []) (Perms (codes "/a") None (codes "x" ∷ codes "y" ∷ []) []) ≡ true
unfolding disturbs
other_owners = refl

perms_of_content : disturbs (Perms (codes "/a") (Some 420) [] []) (Content (codes "/a") (codes "v")) ≡ false
unfolding disturbs
perms_of_content = refl

restarted : disturbs (Restart (codes "n")) (Stop (codes "n")) ≡ true
unfolding disturbs
restarted = refl

started : disturbs (Start (codes "n")) (Restart (codes "n")) ≡ false
unfolding disturbs
started = refl

enabled : disturbs (Enable (codes "n")) (Disable (codes "n")) ≡ true
unfolding disturbs
enabled = refl

busted : disturbs (Delete (codes "/a") true) (Bust BadValue) ≡ false
unfolding disturbs
busted = refl

-- one line at the end, or at the start
abbrev at_end : List ℕ → List script.Edit
at_end line = Insert (line ∷ []) AtEnd ∷ []

abbrev at_start : List ℕ → List script.Edit
at_start line = Insert (line ∷ []) AtStart ∷ []

abbrev file : List ℕ → Option Node
file bytes = Some (File bytes (root_perms 384))

line_there : is_settled (at_end (codes "x")) (file (codes "x")) ≡ true
unfolding leaves is_utf8 chars encode
line_there = refl

line_put : edits (codes "/a") (at_end (codes "y")) (file (codes "x")) ≡ Needs (PutFile (codes "/a") (120 ∷ 10 ∷ 121 ∷ 10 ∷ []))
unfolding leaves is_utf8 chars encode
line_put = refl

line_before : edits (codes "/a") (at_start (codes "y")) (file (codes "x")) ≡ Needs (PutFile (codes "/a") (121 ∷ 10 ∷ 120 ∷ 10 ∷ []))
unfolding leaves is_utf8 chars encode
line_before = refl

line_of_none : edits (codes "/a") (at_end (codes "y")) (file []) ≡ Needs (PutFile (codes "/a") (121 ∷ 10 ∷ []))
unfolding leaves is_utf8 chars encode
line_of_none = refl

no_text : edits (codes "/a") (at_end (codes "y")) (file (255 ∷ [])) ≡ Fail NotText
unfolding is_utf8 chars encode
no_text = refl

no_file : edits (codes "/a") (at_end (codes "y")) None ≡ Fail Missing
no_file = refl

a_directory : edits (codes "/a") (at_end (codes "y")) (Some (Dir (root_perms 448))) ≡ Fail Obstructed
a_directory = refl

changed_content : disturbs (Edit (codes "/a") (at_end (codes "y"))) (Content (codes "/a") (codes "x")) ≡ true
unfolding disturbs keeps_content leaves is_utf8 chars encode
changed_content = refl

left_content : disturbs (Edit (codes "/a") (at_end (codes "x"))) (Content (codes "/a") (codes "x")) ≡ false
unfolding disturbs keeps_content leaves is_utf8 chars encode
left_content = refl

content_changed : disturbs (Content (codes "/a") (codes "x")) (Edit (codes "/a") (at_end (codes "y"))) ≡ true
unfolding disturbs keeps_content leaves is_utf8 chars encode
content_changed = refl

content_left : disturbs (Content (codes "/a") (codes "x")) (Edit (codes "/a") (at_end (codes "x"))) ≡ false
unfolding disturbs keeps_content leaves is_utf8 chars encode
content_left = refl

other_script : disturbs (Edit (codes "/a") (at_end (codes "y"))) (Edit (codes "/a") (at_end (codes "x"))) ≡ true
unfolding disturbs script_text escaped
other_script = refl

same_script : disturbs (Edit (codes "/a") (at_end (codes "x"))) (Edit (codes "/a") (at_end (codes "x"))) ≡ false
unfolding disturbs script_text escaped
same_script = refl

edited_source : disturbs (Edit (codes "/s") (at_end (codes "x"))) (Copy (codes "/s") (codes "/a")) ≡ true
unfolding disturbs
edited_source = refl

edited_beneath : disturbs (Edit (codes "/a/b") (at_end (codes "x"))) (Delete (codes "/a") true) ≡ false
unfolding disturbs
edited_beneath = refl
