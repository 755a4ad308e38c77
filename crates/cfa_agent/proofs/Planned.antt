-- The changes that acts need are no records and no locks, a file that is put has the name of its act, and a mark that an actuation met is one that could be met.
use Rattle.std.proofs.Common.{◌≡◌, ℕ, Bool, true, false, List, [], ◌∷◌, length, drop, All, IfSome, Some, None, Option, Result, Ok, Err, refl, sym, subst, arith}
use Rattle.std.specs.Prelude.{if◌then◌else◌}
use Rattle.std.specs.FinMap as map
use Rattle.std.specs.Str.{is_utf8}
use Rattle.std.proofs.lemmas.List.{length-take}
use Rattle.std.proofs.lemmas.List.Elements.{All-nil, All-cons, All-head, All-tail, All-take, All-drop}
use Rattle.cfa_outside.specs.declared.worlds.Node.{Node}
use Rattle.cfa_outside.specs.declared.worlds.Node.TheVariants.{File, Dir}
use Rattle.cfa_outside.specs.declared.worlds.Perms.{Perms}
use Rattle.cfa_outside.specs.declared.worlds.ServiceRow.{ServiceRow}
use Rattle.cfa_outside.specs.declared.worlds.World.{World}
use Rattle.cfa_outside.specs.declared.sites.Call.{Call}
use Rattle.cfa_outside.specs.declared.sites.Change.{Change}
use Rattle.cfa_outside.specs.declared.sites.Change.TheVariants.{PutFile, PutDir, Remove, SetPerms, PutService, PutLock, Append}
use Rattle.cfa_outside.specs.declared.sites.Look.{Look}
use Rattle.cfa_outside.specs.Worlds.{perms_in}
use Rattle.cfa_outside.specs.Sites.{look_of, after_change}
use Rattle.cfa_lines.specs.Decks.{lines_of}
use Rattle.cfa_edits.specs.declared.edits.Edit.{Edit}
use Rattle.cfa_edits.specs.declared.edits.EditErr.{EditErr}
use Rattle.cfa_edits.specs.Edits.{Lines, edited}
use Rattle.cfa_acts.specs.declared.acts.Act.{Act}
use Rattle.cfa_acts.specs.declared.acts.Act.TheVariants as act
use Rattle.cfa_acts.specs.declared.acts.Reason.{Reason}
use Rattle.cfa_acts.specs.declared.acts.Reason.TheVariants.{NotText, TooLong}
use Rattle.cfa_acts.specs.declared.acts.Decision.{Decision}
use Rattle.cfa_acts.specs.declared.acts.Decision.TheVariants as decisions
use Rattle.cfa_acts.specs.Acts.{decision, post, needed, copies, sets_perms, puts_row, restarts}
use Rattle.cfa_acts.specs.Settling.{is_short, puts_text, puts_lines, edits}
use Rattle.cfa_states.specs.Tellers.{Actuated, actuated, actuated_by}
use Rattle.cfa_agent.specs.declared.actuating.Actuation.{Actuation}
use Rattle.cfa_journal.specs.Records.{IsFilled}
use Rattle.cfa_agent.specs.Actuations.{Mark, done_by, begun_by, first_of, is_change}
use Rattle.cfa_agent.specs.Journaled.{IsNamed, HasName}
use Rattle.cfa_agent.specs.Marks.{is_of_act}
use Rattle.cfa_agent.specs.Actuating.{mark_by, mark_met, done_met}
use Rattle.cfa_agent.proofs.MarkLemmas.{CouldMeet, AreOfActs}

-- ---- the change that an act needs

-- an act that puts a file puts it there
abbrev FileOf : Act → (path : List ℕ) → Type 0
FileOf (act.Create target) path = path ≡ target
FileOf (act.Content target bytes) path = path ≡ target
FileOf (act.Copy source target) path = path ≡ target
FileOf (act.Edit target script) path = path ≡ target
FileOf _ path = ⊥

-- it asks for no record and no lock
abbrev IsFrom : Act → Change → Type 0
IsFrom asked (PutFile path bytes) = FileOf asked path
IsFrom asked (PutLock key moment) = ⊥
IsFrom asked (Append bytes) = ⊥
IsFrom asked _ = Unit {0}

abbrev IsDecidedFrom : Act → Decision → Type 0
IsDecidedFrom asked (decisions.Needs change) = IsFrom asked change
IsDecidedFrom asked _ = Unit {0}

record NeedsFrom (asked : Act) (d : Decision) : Type 0 where
  from : IsDecidedFrom asked d

needs : (asked : Act) (change : Change) → IsFrom asked change → NeedsFrom asked (decisions.Needs change)
needs asked change h = record { from = h }

fails : (asked : Act) (reason : Reason) → NeedsFrom asked (decisions.Fail reason)
fails asked reason = record { from = tt }

kept : (asked : Act) → NeedsFrom asked decisions.Kept
kept asked = record { from = tt }

either : (asked : Act) (b : Bool) (d e : Decision) → NeedsFrom asked d → NeedsFrom asked e → NeedsFrom asked (if b then d else e)
either asked true d e h k = h
either asked false d e h k = k

text_needs : (path : List ℕ) (script : List Edit) (text : List ℕ) → NeedsFrom (act.Edit path script) (puts_text path script text)
text_needs path script text = either _ _ _ _ (either _ _ _ _ (needs _ _ refl) (fails _ _)) (fails _ _)

lines_needs : (path : List ℕ) (script : List Edit) (r : Result Lines EditErr) → NeedsFrom (act.Edit path script) (puts_lines path script r)
lines_needs path script (Ok left) = text_needs path script _
lines_needs path script (Err refused) = fails _ _

edits_needs : (path : List ℕ) (script : List Edit) (node : Option Node) → NeedsFrom (act.Edit path script) (edits path script node)
edits_needs path script None = fails _ _
edits_needs path script (Some (Dir _)) = fails _ _
edits_needs path script (Some (File text _)) =
    let asked : Act = act.Edit path script in
    either asked (is_short text) (if is_utf8 text then puts_lines path script (edited script (lines_of text)) else decisions.Fail NotText) (decisions.Fail TooLong)
    (either asked (is_utf8 text) (puts_lines path script (edited script (lines_of text))) (decisions.Fail NotText) (lines_needs path script (edited script (lines_of text))) (fails asked NotText)) (fails asked TooLong)

copies_needs : (from path : List ℕ) (source : Option Node) (here : Look) → NeedsFrom (act.Copy from path) (copies path source here)
copies_needs from path None here = fails _ _
copies_needs from path (Some (Dir _)) here = fails _ _
copies_needs from path (Some (File bytes _)) here = either _ _ _ _ (either _ _ _ _ (needs _ _ refl) (fails _ _)) (fails _ _)

perms_needs : (asked : Act) (path : List ℕ) (mode : Option ℕ) (owners groups : List (List ℕ)) (perms : Option Perms) → NeedsFrom asked (sets_perms path mode owners groups perms)
perms_needs asked path mode owners groups None = fails _ _
perms_needs asked path mode owners groups (Some present) = needs _ _ tt

row_needs : (asked : Act) (name : List ℕ) (f : ServiceRow → ServiceRow) (row : Option ServiceRow) → NeedsFrom asked (puts_row name f row)
row_needs asked name f None = fails _ _
row_needs asked name f (Some row) = needs _ _ tt

restart_needs : (asked : Act) (name : List ℕ) (row : Option ServiceRow) → NeedsFrom asked (restarts name row)
restart_needs asked name None = fails _ _
restart_needs asked name (Some row) = either _ _ _ _ (fails _ _) (needs _ _ tt)

needed_from : (asked : Act) (w : World) → NeedsFrom asked (needed asked w)
unfolding needed
needed_from (act.Create path) w = either _ _ _ _ (needs _ _ refl) (fails _ _)
needed_from (act.MakeDir path) w = either _ _ _ _ (needs _ _ tt) (fails _ _)
needed_from (act.Delete path with_directories) w = either _ _ _ _ (needs _ _ tt) (fails _ _)
needed_from (act.Content path bytes) w = either _ _ _ _ (needs _ _ refl) (fails _ _)
needed_from (act.Copy source path) w = copies_needs source path (map.get w.nodes source) (look_of w path)
needed_from (act.Edit path script) w = edits_needs path script (map.get w.nodes path)
needed_from (act.Perms path mode owners groups) w = perms_needs _ path mode owners groups (perms_in (map.get w.nodes path))
needed_from (act.Start name) w = row_needs _ name _ (map.get w.services name)
needed_from (act.Stop name) w = row_needs _ name _ (map.get w.services name)
needed_from (act.Enable name) w = row_needs _ name _ (map.get w.services name)
needed_from (act.Disable name) w = row_needs _ name _ (map.get w.services name)
needed_from (act.Restart name) w = restart_needs _ name (map.get w.services name)
needed_from (act.Bust reason) w = fails _ _

decided_from : (asked : Act) (w : World) → NeedsFrom asked (decision asked w)
unfolding decision
decided_from asked w = either asked (post asked w) decisions.Kept (needed asked w) (kept asked) (needed_from asked w)

-- what holds of each change that an act asks for holds of each that acts need
module _ (P : Change → Type 0) where
  by_decision : (asked : Act) (d : Decision) (kept : Actuated) (f : Change → Actuated) → ((change : Change) → IsFrom asked change → P change) → NeedsFrom asked d →
      All P kept.changes → ((change : Change) → All P (f change).changes) → All P (actuated_by d kept f).changes
  by_decision asked decisions.Kept kept f holds needs rest more = rest
  by_decision asked (decisions.Needs change) kept f holds needs rest more = All-cons P change (f change).changes (holds change needs.from) (more change)
  by_decision asked (decisions.Fail reason) kept f holds needs rest more = All-nil P
  by_decision asked (decisions.Fault call) kept f holds needs rest more = All-nil P

  actuated_all : (Q : Act → Type 0) → ((asked : Act) (change : Change) → Q asked → IsFrom asked change → P change) → (acts : List Act) (w : World) → All Q acts → All P (actuated acts w).changes
  actuated_all Q holds [] w all = All-nil P
  actuated_all Q holds (asked ∷ acts) w all =
      let rest : All Q acts = All-tail Q asked acts all in
      by_decision asked (decision asked w) (actuated acts w) (λ change. actuated acts (after_change change w)) (λ change. holds asked change (All-head Q asked acts all)) (decided_from asked w)
      (actuated_all Q holds acts w rest) (λ change. actuated_all Q holds acts (after_change change w) rest)

-- no record and no lock
from_of_act : (asked : Act) (change : Change) → IsFrom asked change → is_of_act change ≡ true
from_of_act asked (PutFile path bytes) from = refl
from_of_act asked (PutDir path) from = refl
from_of_act asked (Remove path) from = refl
from_of_act asked (SetPerms path perms) from = refl
from_of_act asked (PutService name row) from = refl
from_of_act asked (PutLock key moment) from = absurd from
from_of_act asked (Append bytes) from = absurd from

abbrev Any : Act → Type 0
Any asked = Unit {0}

any_acts : (acts : List Act) → All Any acts
any_acts [] = All-nil Any
any_acts (asked ∷ acts) = All-cons Any asked acts tt (any_acts acts)

pub actuated_of_acts : (acts : List Act) (w : World) → AreOfActs (actuated acts w).changes
actuated_of_acts acts w = actuated_all (λ change. is_of_act change ≡ true) Any (λ asked change any. from_of_act asked change) acts w (any_acts acts)

-- a file that is put has the name that its act has
file_named : (asked : Act) (path : List ℕ) → HasName asked → FileOf asked path → IsFilled path
file_named (act.Create target) path has is = subst IsFilled (sym is) has
file_named (act.Content target bytes) path has is = subst IsFilled (sym is) has
file_named (act.Copy source target) path has is = subst IsFilled (sym is) has
file_named (act.Edit target script) path has is = subst IsFilled (sym is) has
file_named (act.MakeDir target) path has is = absurd is
file_named (act.Delete target with_directories) path has is = absurd is
file_named (act.Perms target mode owners groups) path has is = absurd is
file_named (act.Start name) path has is = absurd is
file_named (act.Stop name) path has is = absurd is
file_named (act.Enable name) path has is = absurd is
file_named (act.Disable name) path has is = absurd is
file_named (act.Restart name) path has is = absurd is
file_named (act.Bust reason) path has is = absurd is

from_named : (asked : Act) (change : Change) → HasName asked → IsFrom asked change → IsNamed change
from_named asked (PutFile path bytes) has from = file_named asked path has from
from_named asked (PutDir path) has from = tt
from_named asked (Remove path) has from = tt
from_named asked (SetPerms path perms) has from = tt
from_named asked (PutService name row) has from = tt
from_named asked (PutLock key moment) has from = tt
from_named asked (Append bytes) has from = tt

actuated_named : (acts : List Act) (w : World) → All HasName acts → All IsNamed (actuated acts w).changes
actuated_named acts w = actuated_all IsNamed HasName from_named acts w

first_named : (left : List Change) → All IsNamed left → IfSome (first_of left) IsNamed
first_named [] named = tt
first_named (change ∷ left) named = All-head IsNamed change left named

begun_named : (call : Call) (left : List Change) → All IsNamed left → IfSome (begun_by call left) IsNamed
begun_named call left named = by_call (is_change call) where
  by_call : (b : Bool) → IfSome (if b then first_of left else None) IsNamed
  by_call true = first_named left named
  by_call false = tt

-- what was done under a mark, and the change that was begun
pub done_named : (acts : List Act) (w : World) (m : Option Mark) → All HasName acts →
    All IsNamed (done_by (actuated acts w) m).changes × IfSome (done_by (actuated acts w) m).begun IsNamed
done_named acts w None names = (actuated_named acts w names, tt)
done_named acts w (Some mark) names =
    let planned : List Change = (actuated acts w).changes in
    let named : All IsNamed planned = actuated_named acts w names in
    (All-take IsNamed mark.changes planned named, begun_named mark.call (drop mark.changes planned) (All-drop IsNamed mark.changes planned named))

-- an actuation met a mark that could be met
pub could_meet : (number : ℕ) (planned : Actuated) (changes : ℕ) (refused : Option Call) → changes ≡ length (done_by planned (mark_by number changes refused)).changes → CouldMeet number planned (mark_by number changes refused)
could_meet number planned changes None counted = tt
could_meet number planned changes (Some call) counted = (refl, omega (arith, counted, length-take changes planned.changes))

pub met_could : (number : ℕ) (acts : List Act) (a : Actuation) (w : World) → a.changes ≡ length (done_met number acts a w).changes → CouldMeet number (actuated acts w) (mark_met number a)
met_could number acts a w counted = could_meet number (actuated acts w) a.changes a.refused counted
