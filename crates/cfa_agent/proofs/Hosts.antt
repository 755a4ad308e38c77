-- What acts do depends on nothing of a world but its nodes and its services.
use Rattle.std.proofs.Common.{◌≡◌, ℕ, true, false, List, [], ◌∷◌, ◌++◌, refl, sym, ap, ◌∙◌, IsTrue, subst, Bool, nat_lt}
use Rattle.std.specs.Prelude.{if◌then◌else◌}
use Rattle.std.specs.FinMap as map
use Rattle.cfa_outside.specs.declared.worlds.World.{World}
use Rattle.cfa_outside.specs.declared.sites.Change.{Change}
use Rattle.cfa_outside.specs.declared.sites.Change.TheVariants.{PutFile, PutDir, Remove, SetPerms, PutService, PutLock, Append}
use Rattle.cfa_outside.specs.declared.sites.Entry.{Entry}
use Rattle.cfa_outside.specs.Sites.{fits, after, after_change}
use Rattle.cfa_acts.specs.declared.acts.Act.{Act}
use Rattle.cfa_acts.specs.declared.acts.Act.TheVariants as act
use Rattle.cfa_acts.specs.declared.acts.Decision.{Decision}
use Rattle.cfa_acts.specs.declared.acts.Decision.TheVariants as decisions
use Rattle.cfa_acts.specs.Acts.{decision, post, needed}
use Rattle.cfa_states.specs.Tellers.{Actuated, actuated, actuated_by, changing}
use Rattle.cfa_resolve.specs.declared.instances.Instance.{Instance}
use Rattle.cfa_agent.specs.declared.recording.Heading.{Heading}
use Rattle.cfa_journal.specs.declared.records.Record.TheVariants.{Open, File}
use Rattle.cfa_journal.specs.declared.records.Digest.TheVariants.{Sha}
use Rattle.cfa_locks.specs.Locks.{digest_of, key_of}
use Rattle.cfa_agent.specs.Actuations.{run_record, appended, content_digest, file_record}
use Rattle.cfa_agent.specs.Actuating.{opening, opening_at}
use Rattle.cfa_agent.specs.Hosts.{SameHost}
use Rattle.cfa_agent.specs.lemmas.Hosts.{after_both, same_trans, same_after, same_recorded, same_run}

-- a world with the locks and the journal of another
abbrev beside : World → World → World
beside other world = record world { locks = other.locks; journal = other.journal }

beside_same : (a b : World) → SameHost a b → beside b a ≡ b
beside_same a b same i = record { nodes = same.nodes i; services = same.services i; locks = b.locks; journal = b.journal }

decision_beside : (asked : Act) (a b : World) → decision asked a ≡ decision asked (beside b a)
unfolding decision post needed
decision_beside (act.Create path) a b = refl
decision_beside (act.MakeDir path) a b = refl
decision_beside (act.Delete path with_directories) a b = refl
decision_beside (act.Content path bytes) a b = refl
decision_beside (act.Copy source path) a b = refl
decision_beside (act.Edit path script) a b = refl
decision_beside (act.Perms path mode owners groups) a b = refl
decision_beside (act.Start name) a b = refl
decision_beside (act.Stop name) a b = refl
decision_beside (act.Enable name) a b = refl
decision_beside (act.Disable name) a b = refl
decision_beside (act.Restart name) a b = refl
decision_beside (act.Bust reason) a b = refl

decision_same : (asked : Act) (a b : World) → SameHost a b → decision asked a ≡ decision asked b
decision_same asked a b same = decision_beside asked a b ∙ ap (decision asked) (beside_same a b same)

fits_beside : (change : Change) (a b : World) → fits change a ≡ fits change (beside b a)
fits_beside (PutFile path bytes) a b = refl
fits_beside (PutDir path) a b = refl
fits_beside (Remove path) a b = refl
fits_beside (SetPerms path perms) a b = refl
fits_beside (PutService name row) a b = refl
fits_beside (PutLock key moment) a b = refl
fits_beside (Append bytes) a b = refl

pub fits_same : (change : Change) (a b : World) → SameHost a b → IsTrue (fits change a) → IsTrue (fits change b)
fits_same change a b same h = subst IsTrue (fits_beside change a b ∙ ap (fits change) (beside_same a b same)) h

by_rest : (d : Decision) (kept kept' : Actuated) (changed changed' : Change → Actuated) → kept ≡ kept' → ((change : Change) → changed change ≡ changed' change) → actuated_by d kept changed ≡ actuated_by d kept' changed'
by_rest decisions.Kept kept kept' changed changed' e f = e
by_rest (decisions.Needs change) kept kept' changed changed' e f = ap (changing change) (f change)
by_rest (decisions.Fail reason) kept kept' changed changed' e f = refl
by_rest (decisions.Fault call) kept kept' changed changed' e f = refl

pub actuated_same : (acts : List Act) (a b : World) → SameHost a b → actuated acts a ≡ actuated acts b
actuated_same [] a b same = refl
actuated_same (asked ∷ acts) a b same =
    ap (λ d. actuated_by d (actuated acts a) (λ change. actuated acts (after_change change a))) (decision_same asked a b same)
    ∙ by_rest (decision asked b) (actuated acts a) (actuated acts b) (λ change. actuated acts (after_change change a)) (λ change. actuated acts (after_change change b)) (actuated_same acts a b same)
    (λ change. actuated_same acts (after_change change a) (after_change change b) (same_after change a b same))

pub same_opening : (heading : Heading) (instance : Instance) (w : World) → SameHost (after (opening heading instance) w) w
same_opening heading instance w = by_run (run_record heading.moment heading.has_record) w (same_run heading.moment heading.has_record w) where
  by_run : (entries : List Entry) (w : World) → SameHost (after entries w) w → SameHost (after (entries ++ appended (Open heading.number instance.source (key_of instance.text)) ∷ []) w) w
  by_run entries w same = subst (λ v. SameHost v w) (sym (after_both entries (appended (Open heading.number instance.source (key_of instance.text)) ∷ []) w)) (same_trans _ (after entries w) w (same_recorded (Open heading.number instance.source (key_of instance.text)) (after entries w)) same)

-- the records before a change that stands behind so many others
pub same_opened : (changes : ℕ) (heading : Heading) (instance : Instance) (w : World) → SameHost (after (opening_at changes heading instance) w) w
same_opened changes heading instance w = by_test (nat_lt 0 changes) where
  by_test : (made : Bool) → SameHost (after (if made then [] else opening heading instance) w) w
  by_test true = record { nodes = refl; services = refl }
  by_test false = same_opening heading instance w

pub same_back : (a b : World) → SameHost a b → SameHost b a
same_back a b same = record { nodes = sym same.nodes; services = sym same.services }

-- the record before a change tells of the nodes alone
pub same_file_record : (number : ℕ) (change : Change) (a b : World) → SameHost a b → file_record number change a ≡ file_record number change b
same_file_record number (PutFile path bytes) a b same =
    ap (λ nodes. appended (File number path (content_digest (map.get nodes path)) (Sha (digest_of bytes))) ∷ []) same.nodes
same_file_record number (PutDir path) a b same = refl
same_file_record number (Remove path) a b same = refl
same_file_record number (SetPerms path perms) a b same = refl
same_file_record number (PutService name row) a b same = refl
same_file_record number (PutLock key moment) a b same = refl
same_file_record number (Append bytes) a b same = refl
