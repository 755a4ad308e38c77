-- Of the code alone: what looking at a site answers, and what it leaves the site to show.
use Rattle.std.specs.Prelude.{ℕ, List, [], ◌∷◌, Bool, true, false, ◌&&◌, ◌==◌, nat_le, if◌then◌else◌, Option, Some, None, IfSome, Result, Ok, Err}
use Rattle.std.specs.Bool.{beq}
use Rattle.std.specs.Str.{is_utf8}
use Rattle.cfa_base.specs.declared.limits.TheConstants.{MOST_FILE_BYTES}
use Rattle.cfa_base.specs.Shown.{Shown, Untouched, HasFailed, IsLeft}
use Rattle.cfa_outside.specs.declared.sites.Entry.TheVariants.{Refused}
use Rattle.cfa_outside.specs.declared.sites.Look.{Look}
use Rattle.cfa_outside.specs.declared.sites.Look.TheVariants as look
use Rattle.cfa_outside.specs.declared.sites.Change.TheVariants.{PutFile, PutDir, Remove, SetPerms, PutService}
use Rattle.cfa_outside.specs.declared.worlds.Perms.{Perms}
use Rattle.cfa_outside.specs.declared.worlds.ServiceRow.{ServiceRow}
use Rattle.cfa_outside.specs.declared.worlds.World.{World}
use Rattle.cfa_outside.specs.Worlds.{takes_file}
use Rattle.cfa_outside.specs.Sites.{Told, adds}
use Rattle.cfa_lines.specs.Decks.{lines_of}
use Rattle.cfa_edits.specs.declared.edits.Edit.{Edit}
use Rattle.cfa_edits.specs.declared.edits.EditErr.{EditErr}
use Rattle.cfa_edits.specs.Edits.{Lines, edited}
use Rattle.cfa_acts.specs.declared.seeing.SeeErr.{SeeErr}
use Rattle.cfa_acts.specs.declared.seeing.SeeErr.TheVariants.{Failed, NoMemory}
use Rattle.cfa_acts.specs.declared.acts.Act.{Act}
use Rattle.cfa_acts.specs.declared.acts.Act.TheVariants.{Start, Stop, Enable, Disable}
use Rattle.cfa_acts.specs.declared.acts.Reason.{Reason}
use Rattle.cfa_acts.specs.declared.acts.Reason.TheVariants.{Missing, Obstructed, NotText, UnknownService, TooLong}
use Rattle.cfa_acts.specs.declared.acts.Decision.{Decision}
use Rattle.cfa_acts.specs.declared.acts.Decision.TheVariants.{Kept, Needs, Fail, Fault}
use Rattle.cfa_acts.specs.Acts.{IsOwn, are_perms, asked_perms, with_running, with_enabled}
use Rattle.cfa_acts.specs.Settling.{are_left, puts_lines}

-- this holds of the world, where it is told
abbrev pub OfWorld : (World → Type 0) → Shown Told → Type 0
OfWorld P shown = IfSome shown.told (λ t. P t.world)

-- the answer is one on the world, and the site is as it was
pub record IsSeen (P : World → Type 0) (before after : Shown Told) : Type 0 where
  pub holds : OfWorld P before
  pub shown : Untouched before after

abbrev pub Sees :
    {X : Type 0} → (X → World → Type 0) → (before after : Shown Told) → Result X SeeErr → Type 0
Sees P before after (Ok x) = IsSeen (P x) before after
Sees P before after (Err (Failed call)) = HasFailed (adds (Refused call ∷ [])) before after
Sees P before after (Err NoMemory) = IsLeft before after

-- a decision that isn't a fault
abbrev pub IsWhole : Decision → Type 0
IsWhole Kept = Unit {0}
IsWhole (Needs _) = Unit {0}
IsWhole (Fail reason) = IsOwn reason
IsWhole (Fault _) = ⊥

-- by what a look shows
abbrev pub created : List ℕ → Look → Decision
created path (look.File _) = Kept
created path (look.Dir _) = Fail Obstructed
created path look.Blocked = Fail Obstructed
created path look.Nothing = Needs (PutFile path [])

abbrev pub made : List ℕ → Look → Decision
made path (look.Dir _) = Kept
made path (look.File _) = Fail Obstructed
made path look.Blocked = Fail Obstructed
made path look.Nothing = Needs (PutDir path)

abbrev pub deleted : List ℕ → Bool → Look → Decision
deleted path with_directories look.Nothing = Kept
deleted path with_directories look.Blocked = Kept
deleted path with_directories (look.File _) = Needs (Remove path)
deleted path with_directories (look.Dir is_empty) =
    if with_directories && is_empty then Needs (Remove path) else Fail Obstructed

-- a file of this size
abbrev pub has_size : ℕ → Look → Bool
has_size size look.Nothing = false
has_size size look.Blocked = false
has_size size (look.File present) = present == size
has_size size (look.Dir _) = false

abbrev pub stands : Look → Bool
stands look.Nothing = false
stands look.Blocked = false
stands (look.File _) = true
stands (look.Dir _) = true

-- why a file isn't copied, by what looks show of the source and the target
abbrev pub copy_refusal : (source target : Look) → Option Reason
copy_refusal look.Nothing target = Some Missing
copy_refusal look.Blocked target = Some Missing
copy_refusal (look.Dir _) target = Some Obstructed
copy_refusal (look.File size) target =
    if takes_file target
    then (if nat_le size MOST_FILE_BYTES then None else Some TooLong)
    else Some Obstructed

-- why a file isn't edited, by what a look shows of it
abbrev pub edit_refusal : Look → Option Reason
edit_refusal look.Nothing = Some Missing
edit_refusal look.Blocked = Some Missing
edit_refusal (look.Dir _) = Some Obstructed
edit_refusal (look.File size) = if nat_le size MOST_FILE_BYTES then None else Some TooLong

-- by the lines of a text and what the edits made of them
abbrev pub line_decision : List ℕ → List Edit → Lines → Result Lines EditErr → Decision
line_decision path script lines made =
    if are_left made lines then Kept else puts_lines path script made

-- by the bytes of a file within the limit
unfoldable pub edit_decision : List ℕ → List Edit → List ℕ → Decision
edit_decision path script text =
    if is_utf8 text then line_decision path script (lines_of text) (edited script (lines_of text)) else Fail NotText

-- by the permissions of what stands at a path
abbrev pub perms_decision : List ℕ → Option ℕ → (owners groups : List (List ℕ)) → Perms → Decision
perms_decision path mode owners groups present =
    if are_perms mode owners groups present then Kept
    else Needs (SetPerms path (asked_perms mode owners groups present))

-- by the row of a service
abbrev pub running_act : Bool → List ℕ → Act
running_act running name = if running then Start name else Stop name

abbrev pub put_running : Bool → List ℕ → Option ServiceRow → Decision
put_running running name None = Fail UnknownService
put_running running name (Some row) =
    if beq row.running running then Kept else Needs (PutService name (with_running running row))

abbrev pub enabled_act : Bool → List ℕ → Act
enabled_act enabled name = if enabled then Enable name else Disable name

abbrev pub put_enabled : Bool → List ℕ → Option ServiceRow → Decision
put_enabled enabled name None = Fail UnknownService
put_enabled enabled name (Some row) =
    if beq row.enabled enabled then Kept else Needs (PutService name (with_enabled enabled row))
