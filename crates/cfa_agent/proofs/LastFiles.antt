-- What the last record of a bracketed log tells of a file.
use Rattle.std.proofs.Common.{◌≡◌, ℕ, Bool, true, false, cond, nat_le, List, [], ◌∷◌, length, Option, Some, None, IsTrue, refl, sym, ap, subst, ◌∙◌, ◌⊎◌, inl, inr}
use Rattle.std.specs.Prelude.{if◌then◌else◌, ⊤}
use Rattle.std.specs.FinMap as map
use Rattle.std.specs.Cmp.Lexicographic.{nat_list_cmp_total}
use Rattle.std.specs.Ordering.{eq_by_cmp}
use Rattle.std.proofs.lemmas.Bool.{false≢true}
use Rattle.cfa_base.specs.TextMaps.{text_cmp}
use Rattle.cfa_base.specs.lemmas.TextMaps.{tied, ties}
use Rattle.cfa_base.specs.declared.limits.TheConstants.{MOST_FILE_BYTES}
use Rattle.cfa_outside.specs.declared.worlds.Node.{Node}
use Rattle.cfa_outside.specs.declared.worlds.Node.TheVariants as nodes
use Rattle.cfa_outside.specs.declared.worlds.Perms.{Perms}
use Rattle.cfa_outside.specs.declared.worlds.World.{World}
use Rattle.cfa_outside.specs.declared.sites.Change.TheVariants.{PutFile, PutDir, Remove, SetPerms, PutService, PutLock, Append}
use Rattle.cfa_outside.specs.declared.sites.Entry.{Entry}
use Rattle.cfa_outside.specs.declared.sites.Entry.TheVariants.{Did, Refused}
use Rattle.cfa_outside.specs.Sites.{after, after_change}
use Rattle.cfa_outside.specs.Worlds.{NodeMap, above, with_dirs, file_with, put_file, with_perms, set_perms, set_perms_of}
use Rattle.cfa_journal.specs.declared.positions.Position.TheVariants.{Start}
use Rattle.cfa_journal.specs.declared.records.Digest.{Digest}
use Rattle.cfa_journal.specs.declared.records.Digest.TheVariants.{Nothing, Over, Sha}
use Rattle.cfa_journal.specs.declared.records.Record.{Record}
use Rattle.cfa_journal.specs.declared.records.Record.TheVariants.{Run, Run2, Open, File, Repaired, Failed, Fail}
use Rattle.cfa_locks.specs.Locks.{digest_of}
use Rattle.cfa_rows.specs.Rows.{last_after}
use Rattle.cfa_agent.specs.Actuations.{content_digest}
use Rattle.cfa_agent.specs.Bracketed.{Point, first_point, line_of, TellsSo, IsOfFile, IsBracketedFrom}
use Rattle.cfa_agent.specs.Journaled.{HasDigest, LastTells, is_spared, BracketedLogsTell}
use Rattle.cfa_agent.proofs.OpenRepairs.{run_from, in_place, one_run, one_open, others_done}

-- ---- nodes

-- another content is no file's, and the digest of what stands there is its
is_content : (node : Option Node) (d : Digest) → d ≡ content_digest node → (d ≡ Over) ⊎ HasDigest node d
is_content None d is = inr (subst (HasDigest None) (sym is) tt)
is_content (Some (nodes.Dir perms)) d is = inr (subst (HasDigest (Some (nodes.Dir perms))) (sym is) tt)
is_content (Some (nodes.File bytes perms)) d is = by_size (nat_le (length bytes) MOST_FILE_BYTES) is where
  by_size : (b : Bool) → d ≡ (if b then Sha (digest_of bytes) else Over) → (d ≡ Over) ⊎ HasDigest (Some (nodes.File bytes perms)) d
  by_size true is = inr (subst (HasDigest (Some (nodes.File bytes perms))) (sym is) refl)
  by_size false is = inl is

-- what is put has the digest of its bytes
put_digest : (bytes : List ℕ) (here : Option Node) → HasDigest (Some (file_with bytes here)) (Sha (digest_of bytes))
put_digest bytes None = refl
put_digest bytes (Some (nodes.Dir perms)) = refl
put_digest bytes (Some (nodes.File present perms)) = refl

put_there : (m : NodeMap) (path bytes : List ℕ) → HasDigest (map.get (put_file path bytes m) path) (Sha (digest_of bytes))
unfolding put_file
put_there m path bytes =
    let made : NodeMap = with_dirs (above path) m in
    let put : Node = file_with bytes (map.get m path) in
    let P : Option Node → Type 0 = λ node. HasDigest node (Sha (digest_of bytes)) in
    subst P (sym (map.get-insert nat_list_cmp_total made path put path ∙ ap (λ b. cond b (Some put) (map.get made path)) (ties path)))
    (put_digest bytes (map.get m path))

-- permissions leave it
perms_keep_one : (perms : Perms) (node : Node) (d : Digest) → HasDigest (Some node) d → HasDigest (Some (with_perms perms node)) d
perms_keep_one perms (nodes.File bytes present) Nothing has = has
perms_keep_one perms (nodes.File bytes present) Over has = has
perms_keep_one perms (nodes.File bytes present) (Sha key) has = has
perms_keep_one perms (nodes.Dir present) Nothing has = has
perms_keep_one perms (nodes.Dir present) Over has = has
perms_keep_one perms (nodes.Dir present) (Sha key) has = has

perms_keep_there : (m : NodeMap) (path p : List ℕ) (perms : Perms) (node : Node) (d : Digest) → map.get m path ≡ Some node → HasDigest (map.get m p) d →
    HasDigest (map.get (map.insert m path (with_perms perms node)) p) d
perms_keep_there m path p perms node d stands has =
    let P : Option Node → Type 0 = λ node. HasDigest node d in
    subst P (sym (map.get-insert nat_list_cmp_total m path (with_perms perms node) p))
    (elim (eq_by_cmp text_cmp p path) as (λ b. eq_by_cmp text_cmp p path ≡ b → HasDigest (cond b (Some (with_perms perms node)) (map.get m p)) d) [
      | true ↦ λ same. perms_keep_one perms node d (subst P (ap (map.get m) (tied p path same) ∙ stands) has)
      | false ↦ λ _. has
    ] refl)

perms_keep : (m : NodeMap) (path p : List ℕ) (perms : Perms) (d : Digest) → HasDigest (map.get m p) d → HasDigest (map.get (set_perms path perms m) p) d
unfolding set_perms
perms_keep m path p perms d has = by_node (map.get m path) refl where
  by_node : (here : Option Node) → map.get m path ≡ here → HasDigest (map.get (set_perms_of here path perms m) p) d
  by_node None is = has
  by_node (Some node) is = perms_keep_there m path p perms node d is has

-- ---- records

-- what it tells hangs on the nodes, and stays where each digest does
tells_on : (last : Option Record) (v w : World) → ((p : List ℕ) (d : Digest) → HasDigest (map.get v.nodes p) d → HasDigest (map.get w.nodes p) d) → LastTells last v → LastTells last w
tells_on (Some (File n path Over after')) v w keeps told = tt
tells_on (Some (File n path Nothing after')) v w keeps (inl has) = inl (keeps path Nothing has)
tells_on (Some (File n path Nothing after')) v w keeps (inr has) = inr (keeps path after' has)
tells_on (Some (File n path (Sha key) after')) v w keeps (inl has) = inl (keeps path (Sha key) has)
tells_on (Some (File n path (Sha key) after')) v w keeps (inr has) = inr (keeps path after' has)
tells_on (Some (Run m)) v w keeps told = tt
tells_on (Some (Run2 m)) v w keeps told = tt
tells_on (Some (Open n id key)) v w keeps told = tt
tells_on (Some (Repaired n changes)) v w keeps told = tt
tells_on (Some (Failed n reason)) v w keeps told = tt
tells_on (Some (Fail n id key reason)) v w keeps told = tt
tells_on None v w keeps told = tt

same_tells : (last : Option Record) (v w : World) → v.nodes ≡ w.nodes → LastTells last v → LastTells last w
same_tells last v w same = tells_on last v w (λ p d. subst (λ nodes. HasDigest (map.get nodes p) d) same)

-- either is so
told_by : (n : ℕ) (path : List ℕ) (before after' : Digest) (w : World) → (before ≡ Over) ⊎ (HasDigest (map.get w.nodes path) before ⊎ HasDigest (map.get w.nodes path) after') → LastTells (Some (File n path before after')) w
told_by n path Over after' w is = tt
told_by n path Nothing after' w (inl over) = absurd (cc)
told_by n path Nothing after' w (inr is) = is
told_by n path (Sha key) after' w (inl over) = absurd (cc)
told_by n path (Sha key) after' w (inr is) = is

-- a record as it is written
written_tells : (here : Point) (r : Record) → TellsSo here r → LastTells (Some r) (after_change (Append (line_of r)) here.world)
unfolding after_change
written_tells here (File n path before after') so = told_by n path before after' _ (by_content (is_content (map.get here.world.nodes path) before so)) where
  by_content : (before ≡ Over) ⊎ HasDigest (map.get here.world.nodes path) before → (before ≡ Over) ⊎ (HasDigest (map.get here.world.nodes path) before ⊎ HasDigest (map.get here.world.nodes path) after')
  by_content (inl over) = inl over
  by_content (inr has) = inr (inl has)
written_tells here (Run m) so = tt
written_tells here (Run2 m) so = tt
written_tells here (Open n id key) so = tt
written_tells here (Repaired n changes) so = tt
written_tells here (Failed n reason) so = tt
written_tells here (Fail n id key reason) so = tt

-- the record directly before is the last one
abbrev IsLinked : Option Record → Option Record → Type 0
IsLinked None last = ⊤
IsLinked (Some r) last = last ≡ Some r

-- a file that is put behind its record
put_tells : (path bytes : List ℕ) (written last : Option Record) (w : World) → IsLinked written last → IsOfFile path bytes written → LastTells last (after_change (PutFile path bytes) w)
unfolding after_change
put_tells path bytes None last w linked of = absurd of
put_tells path bytes (Some (File n p before after')) last w linked of =
    let world : World = after_change (PutFile path bytes) w in
    let Tells : Option Record → Type 0 = λ last. LastTells last world in
    let There : List ℕ → Type 0 = λ p. HasDigest (map.get world.nodes p) (Sha (digest_of bytes)) in
    let Has : Digest → Type 0 = λ d. HasDigest (map.get world.nodes p) d in
    subst Tells (sym linked) (told_by n p before after' world (inr (inr (subst Has (sym of.1) (subst There (sym of.0) (put_there w.nodes path bytes))))))
put_tells path bytes (Some (Run m)) last w linked of = absurd of
put_tells path bytes (Some (Run2 m)) last w linked of = absurd of
put_tells path bytes (Some (Open n id key)) last w linked of = absurd of
put_tells path bytes (Some (Repaired n changes)) last w linked of = absurd of
put_tells path bytes (Some (Failed n reason)) last w linked of = absurd of
put_tells path bytes (Some (Fail n id key reason)) last w linked of = absurd of

-- ---- logs

service_nodes : (name : List ℕ) (row : _) (w : World) → w.nodes ≡ (after_change (PutService name row) w).nodes
unfolding after_change
service_nodes name row w = refl

lock_nodes : (key : List ℕ) (moment : ℕ) (w : World) → w.nodes ≡ (after_change (PutLock key moment) w).nodes
unfolding after_change
lock_nodes key moment w = refl

perms_tells : (path : List ℕ) (perms : Perms) (last : Option Record) (w : World) → LastTells last w → LastTells last (after_change (SetPerms path perms) w)
unfolding after_change
perms_tells path perms last w = tells_on last w _ (λ p d. perms_keep w.nodes path p perms d)

pub last_tells : (log : List Entry) (here : Point) (is : IsBracketedFrom here log) (last : Option Record) (spared : Bool) → IsLinked here.written last → (IsTrue spared → LastTells last here.world) →
    IsTrue (is_spared spared log) → LastTells (last_after last (run_from log here is).records) (after log here.world)
unfolding run_from
last_tells [] here is last spared linked told spares = told spares
last_tells (Refused call ∷ log) here is last spared linked told spares = last_tells log _ is last spared tt told spares
last_tells (Did (Append bytes) ∷ log) here is last spared linked told spares =
    let records = (run_from log _ is.3).records in
    let P : List ℕ → Type 0 = λ bytes. LastTells (last_after (Some is.0) records) (after log (after_change (Append bytes) here.world)) in
    subst P (sym is.1) (last_tells log _ is.3 (Some is.0) true refl (λ _. written_tells here is.0 is.2.1) spares)
last_tells (Did (PutLock key moment) ∷ log) here is last spared linked told spares =
    last_tells log _ is.1 last spared tt (λ yes. same_tells last here.world _ (lock_nodes key moment here.world) (told yes)) spares
last_tells (Did (PutFile path bytes) ∷ log) here is last spared linked told spares =
    last_tells log _ is.1 last spared tt (λ _. put_tells path bytes here.written last here.world linked is.0.1) spares
last_tells (Did (PutDir path) ∷ log) here is last spared linked told spares =
    last_tells log _ is.1 last false tt (λ no. absurd (false≢true no)) spares
last_tells (Did (Remove path) ∷ log) here is last spared linked told spares =
    last_tells log _ is.1 last false tt (λ no. absurd (false≢true no)) spares
last_tells (Did (SetPerms path perms) ∷ log) here is last spared linked told spares =
    last_tells log _ is.1 last spared tt (λ yes. perms_tells path perms last here.world (told yes)) spares
last_tells (Did (PutService name row) ∷ log) here is last spared linked told spares =
    last_tells log _ is.1 last spared tt (λ yes. same_tells last here.world _ (service_nodes name row here.world) (told yes)) spares

-- ---- the whole

pub logs_tell : BracketedLogsTell
logs_tell world log is =
    let run = run_from log (first_point world) is in
    record {
      told = run.records;
      whole = run.whole;
      in_place = in_place run.records Start run.run;
      one_run = one_run run.records run.run;
      one_open = one_open run.records run.run;
      others_done = others_done run.records run.run;
      last_file = last_tells log (first_point world) is None true tt (λ _. tt);
    }
