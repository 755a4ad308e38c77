-- What entries leave of a world: none of them, those of two parts, and that what changes make of its nodes and services depends on
-- nothing else of it. Records change neither.
use Rattle.std.proofs.Common.{◌≡◌, ℕ, Bool, true, false, List, [], ◌∷◌, ◌++◌, refl, sym, ap, subst, ◌∙◌, append-nil}
use Rattle.std.specs.FinMap as map
use Rattle.cfa_outside.specs.declared.worlds.World.{World}
use Rattle.cfa_outside.specs.declared.sites.Change.{Change}
use Rattle.cfa_outside.specs.declared.sites.Change.TheVariants.{PutFile, PutDir, Remove, SetPerms, PutService, PutLock, Append}
use Rattle.cfa_outside.specs.declared.sites.Entry.{Entry}
use Rattle.cfa_outside.specs.declared.sites.Entry.TheVariants.{Did, Refused}
use Rattle.cfa_outside.specs.Sites.{Told, adds, after, after_change}
use Rattle.cfa_outside.specs.Worlds.{put_file, put_directory, set_perms}
use Rattle.cfa_journal.specs.declared.records.Record.{Record}
use Rattle.cfa_states.specs.Tellers.{after_all}
use Rattle.cfa_agent.specs.Actuations.{appended, run_record, file_record, changed}
use Rattle.cfa_agent.specs.Hosts.{SameHost}

pub after_both : (a b : List Entry) (w : World) → after (a ++ b) w ≡ after b (after a w)
after_both [] b w = refl
after_both (Did change ∷ a) b w = after_both a b (after_change change w)
after_both (Refused _ ∷ a) b w = after_both a b w

pub adds_none : (t : Told) → adds [] t ≡ t
adds_none t i = record { world = t.world; log = append-nil t.log i }

pub same_host : (w : World) → SameHost w w
same_host w = record { nodes = refl; services = refl }

pub same_trans : (a b c : World) → SameHost a b → SameHost b c → SameHost a c
same_trans a b c first second = record { nodes = first.nodes ∙ second.nodes; services = first.services ∙ second.services }

pub same_after : (change : Change) (a b : World) → SameHost a b → SameHost (after_change change a) (after_change change b)
unfolding after_change
same_after (PutFile path bytes) a b same = record { nodes = ap (put_file path bytes) same.nodes; services = same.services }
same_after (PutDir path) a b same = record { nodes = ap (put_directory path) same.nodes; services = same.services }
same_after (Remove path) a b same = record { nodes = ap (λ nodes. map.remove nodes path) same.nodes; services = same.services }
same_after (SetPerms path perms) a b same = record { nodes = ap (set_perms path perms) same.nodes; services = same.services }
same_after (PutService name row) a b same = record { nodes = same.nodes; services = ap (λ services. map.insert services name row) same.services }
same_after (PutLock key moment) a b same = record { nodes = same.nodes; services = same.services }
same_after (Append bytes) a b same = record { nodes = same.nodes; services = same.services }

pub same_recorded : (written : Record) (w : World) → SameHost (after (appended written ∷ []) w) w
unfolding after_change
same_recorded written w = record { nodes = refl; services = refl }

pub same_run : (moment : ℕ) (has_record : Bool) (w : World) → SameHost (after (run_record moment has_record) w) w
unfolding after_change
same_run moment true w = record { nodes = refl; services = refl }
same_run moment false w = record { nodes = refl; services = refl }

-- so does the record before a change, whatever it tells
pub same_filed : (number : ℕ) (change : Change) (w v : World) → SameHost (after (file_record number change w) v) v
same_filed number (PutFile path bytes) w v = same_recorded _ v
same_filed number (PutDir path) w v = same_host v
same_filed number (Remove path) w v = same_host v
same_filed number (SetPerms path perms) w v = same_host v
same_filed number (PutService name row) w v = same_host v
same_filed number (PutLock key moment) w v = same_host v
same_filed number (Append bytes) w v = same_host v

-- what changes leave of a host, each file behind its record
pub same_changed : (number : ℕ) (changes : List Change) (w v : World) → SameHost v w → SameHost (after (changed number w changes) v) (after_all changes w)
same_changed number [] w v same = same
same_changed number (change ∷ changes) w v same =
    subst (λ x. SameHost x (after_all changes (after_change change w))) (sym (after_both (file_record number change w) (Did change ∷ changed number (after_change change w) changes) v))
    (same_changed number changes (after_change change w) (after_change change (after (file_record number change w) v))
    (same_after change (after (file_record number change w) v) w (same_trans (after (file_record number change w) v) v w (same_filed number change w v) same)))
