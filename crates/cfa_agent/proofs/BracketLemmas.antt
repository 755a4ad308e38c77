-- A bracketed log goes on with what an instance adds, piece by piece.
use Rattle.std.proofs.Common.{◌≡◌, ℕ, suc, ◌+◌, ◌<◌, ◌≤◌, ◌^◌, Bool, true, false, ◌==◌, nat_le, List, [], ◌∷◌, ◌++◌, length, All, Option, Some, None, IfSome, IsTrue, refl, sym, ap, subst, ◌∙◌, arith, append_assoc, append-nil}
use Rattle.std.specs.Prelude.{if◌then◌else◌, ⊤}
use Rattle.std.specs.FinMap as finite
use Rattle.std.proofs.lemmas.Bool.{eq-eqb, false≢true}
use Rattle.std.proofs.lemmas.List.Elements.{All-head, All-tail}
use Rattle.cfa_base.specs.declared.limits.TheConstants.{MOST_FILE_BYTES}
use Rattle.cfa_outside.specs.declared.worlds.Node.{Node}
use Rattle.cfa_outside.specs.declared.worlds.Node.TheVariants as nodes
use Rattle.cfa_outside.specs.declared.worlds.World.{World}
use Rattle.cfa_outside.specs.declared.sites.Call.{Call}
use Rattle.cfa_outside.specs.declared.sites.Change.{Change}
use Rattle.cfa_outside.specs.declared.sites.Change.TheVariants.{PutFile, PutDir, Remove, SetPerms, PutService, PutLock, Append}
use Rattle.cfa_outside.specs.declared.sites.Entry.{Entry}
use Rattle.cfa_outside.specs.declared.sites.Entry.TheVariants.{Did, Refused}
use Rattle.cfa_outside.specs.Sites.{after, after_change}
use Rattle.cfa_outside.specs.Worlds.{put_file, put_directory, set_perms}
use Rattle.cfa_acts.specs.declared.acts.Reason.{Reason}
use Rattle.cfa_acts.specs.declared.acts.Reason.TheVariants as reasons
use Rattle.cfa_journal.specs.declared.positions.Position.{Position}
use Rattle.cfa_journal.specs.declared.positions.Position.TheVariants.{Between, Within}
use Rattle.cfa_journal.specs.declared.positions.Version.TheVariants.{Two}
use Rattle.cfa_journal.specs.declared.records.Digest.TheVariants.{Over, Sha}
use Rattle.cfa_journal.specs.declared.records.Record.{Record}
use Rattle.cfa_journal.specs.declared.records.Record.TheVariants.{File, Repaired, Failed}
use Rattle.cfa_journal.specs.Positions.{behind}
use Rattle.cfa_journal.specs.Records.{IsCount, IsReason, IsFilled, IsDigest}
use Rattle.cfa_locks.specs.Locks.{digest_of}
use Rattle.cfa_locks.specs.lemmas.HexKeys.{is_key-sha256}
use Rattle.cfa_states.specs.Tellers.{after_all}
use Rattle.cfa_agent.specs.Actuations.{number_of, appended, content_digest, file_record, changed, begun_record, refused_entry, closing_record}
use Rattle.cfa_agent.specs.Journaled.{IsNamed}
use Rattle.cfa_agent.specs.Marks.{is_of_act}
use Rattle.cfa_agent.specs.Standing.{at, Leads}
use Rattle.cfa_agent.specs.lemmas.Hosts.{after_both}
use Rattle.cfa_agent.proofs.MarkLemmas.{AreOfActs}
use Rattle.cfa_agent.specs.Bracketed.{Point, changes_behind, MayBeWritten, IsBracketedFrom, first_point, IsBracketed, FrontsAreBracketed}

-- ---- first parts

-- a first part of a bracketed log is one
pub front_bracketed : (front rest : List Entry) (here : Point) → IsBracketedFrom here (front ++ rest) → IsBracketedFrom here front
front_bracketed [] rest here is = tt
front_bracketed (Refused call ∷ front) rest here is = front_bracketed front rest _ is
front_bracketed (Did (Append bytes) ∷ front) rest here is = (is.0, is.1, is.2, front_bracketed front rest _ is.3)
front_bracketed (Did (PutLock key moment) ∷ front) rest here is = (is.0, front_bracketed front rest _ is.1)
front_bracketed (Did (PutFile path bytes) ∷ front) rest here is = (is.0, front_bracketed front rest _ is.1)
front_bracketed (Did (PutDir path) ∷ front) rest here is = (is.0, front_bracketed front rest _ is.1)
front_bracketed (Did (Remove path) ∷ front) rest here is = (is.0, front_bracketed front rest _ is.1)
front_bracketed (Did (SetPerms path perms) ∷ front) rest here is = (is.0, front_bracketed front rest _ is.1)
front_bracketed (Did (PutService name row) ∷ front) rest here is = (is.0, front_bracketed front rest _ is.1)

pub fronts_bracketed : FrontsAreBracketed
fronts_bracketed world log is front rest e = front_bracketed front rest (first_point world) (subst (IsBracketed world) e is)

-- ---- logs that go on

pub leads_bracketed : (here : Point) (log : List Entry) (p : Position) (k : ℕ) → Leads here log p k → IsBracketedFrom here log
leads_bracketed here log p k leads = subst (IsBracketedFrom here) (append-nil log) (leads.on [] tt)

pub leads_none : (p : Position) (j : Option Record) (k : ℕ) (w : World) → Leads (at p j k w) [] p k
leads_none p j k w = record { written = j; on = λ more rest. rest }

pub leads_then : (here : Point) (a b : List Entry) (p q : Position) (k l : ℕ) → Leads here a p k → ((j : Option Record) → Leads (at p j k (after a here.world)) b q l) → Leads here (a ++ b) q l
leads_then here a b p q k l first next =
    let second = next first.written in
    record {
      written = second.written;
      on = λ more rest.
          let P : World → Type 0 = λ w. IsBracketedFrom (at q second.written l w) more in
          subst (IsBracketedFrom here) (sym (append_assoc a b more))
          (first.on (b ++ more) (second.on more (subst P (after_both a b here.world) rest)));
    }

pub leads_record : (p : Position) (j : Option Record) (k : ℕ) (w : World) (r : Record) → MayBeWritten (at p j k w) r → Leads (at p j k w) (appended r ∷ []) (behind p r) (changes_behind k r)
leads_record p j k w r may = record { written = Some r; on = λ more rest. (r, refl, may, rest) }

pub leads_refused : (p : Position) (j : Option Record) (k : ℕ) (w : World) (refused : Option Call) → Leads (at p j k w) (refused_entry refused) p k
leads_refused p j k w None = leads_none p j k w
leads_refused p j k w (Some call) = record { written = None; on = λ more rest. rest }

-- ---- an instance that is open

abbrev pub within : ℕ → Position
within n = Within Two n

same_number : (n : ℕ) → IsTrue (n == n)
same_number n = eq-eqb n n refl

key_fits : (bytes : List ℕ) → IsDigest (Sha (digest_of bytes))
key_fits bytes = is_key-sha256 bytes

digest_fits : (node : Option Node) → IsDigest (content_digest node)
digest_fits None = tt
digest_fits (Some (nodes.Dir perms)) = tt
digest_fits (Some (nodes.File bytes perms)) = by_size (nat_le (length bytes) MOST_FILE_BYTES) where
  by_size : (b : Bool) → IsDigest (if b then Sha (digest_of bytes) else Over)
  by_size true = key_fits bytes
  by_size false = tt

-- what a change makes of the nodes hangs on them alone, and a record before it changes none
nodes_next : (n : ℕ) (change : Change) (u v w : World) → v.nodes ≡ w.nodes → (after (file_record n change u ++ Did change ∷ []) v).nodes ≡ (after_change change w).nodes
unfolding after_change
nodes_next n (PutFile path bytes) u v w same = ap (put_file path bytes) same
nodes_next n (PutDir path) u v w same = ap (put_directory path) same
nodes_next n (Remove path) u v w same = ap (λ nodes. finite.remove nodes path) same
nodes_next n (SetPerms path perms) u v w same = ap (set_perms path perms) same
nodes_next n (PutService name row) u v w same = same
nodes_next n (PutLock key moment) u v w same = same
nodes_next n (Append bytes) u v w same = same

pub nodes_changed : (n : ℕ) (made : List Change) (v w : World) → v.nodes ≡ w.nodes → (after (changed n w made) v).nodes ≡ (after_all made w).nodes
nodes_changed n [] v w same = same
nodes_changed n (change ∷ made) v w same =
    ap (λ (x : World). x.nodes)
    (ap (λ entries. after entries v) (sym (append_assoc (file_record n change w) (Did change ∷ []) (changed n (after_change change w) made)))
    ∙ after_both (file_record n change w ++ Did change ∷ []) (changed n (after_change change w) made) v)
    ∙ nodes_changed n made (after (file_record n change w ++ Did change ∷ []) v) (after_change change w) (nodes_next n change w v w same)

pub reason_fits : (reason : Reason) → IsReason (number_of reason)
reason_fits reasons.BadPath = (omega arith, omega arith)
reason_fits reasons.Missing = (omega arith, omega arith)
reason_fits reasons.Obstructed = (omega arith, omega arith)
reason_fits reasons.NotText = (omega arith, omega arith)
reason_fits reasons.NonConvergent = (omega arith, omega arith)
reason_fits reasons.NoAnchor = (omega arith, omega arith)
reason_fits reasons.FieldCount = (omega arith, omega arith)
reason_fits reasons.UnknownService = (omega arith, omega arith)
reason_fits reasons.BadPattern = (omega arith, omega arith)
reason_fits reasons.BadValue = (omega arith, omega arith)
reason_fits reasons.Fault = (omega arith, omega arith)
reason_fits reasons.TooLong = (omega arith, omega arith)
reason_fits reasons.TooMany = (omega arith, omega arith)

-- an instance that ends as repaired has made a change
abbrev pub IsRepaired : (changes : ℕ) → (failure : Option Reason) → Type 0
IsRepaired changes None = 1 ≤ changes
IsRepaired changes (Some reason) = ⊤

module _ (n : ℕ) (count : IsCount n) where
  -- the record of a file that is put next
  file_may : (j : Option Record) (k : ℕ) (v w : World) (path bytes : List ℕ) → v.nodes ≡ w.nodes → IsFilled path →
      MayBeWritten (at (within n) j k v) (File n path (content_digest (finite.get w.nodes path)) (Sha (digest_of bytes)))
  file_may j k v w path bytes same named = (
    ((count, (named, (digest_fits (finite.get w.nodes path), key_fits bytes))), same_number n),
    ap (λ nodes. content_digest (finite.get nodes path)) (sym same),
  )

  leads_filed : (j : Option Record) (k : ℕ) (v w : World) (change : Change) → v.nodes ≡ w.nodes → IsNamed change → Leads (at (within n) j k v) (file_record n change w) (within n) k
  leads_filed j k v w (PutFile path bytes) same named = leads_record (within n) j k v _ (file_may j k v w path bytes same named)
  leads_filed j k v w (PutDir path) same named = leads_none (within n) j k v
  leads_filed j k v w (Remove path) same named = leads_none (within n) j k v
  leads_filed j k v w (SetPerms path perms) same named = leads_none (within n) j k v
  leads_filed j k v w (PutService name row) same named = leads_none (within n) j k v
  leads_filed j k v w (PutLock key moment) same named = leads_none (within n) j k v
  leads_filed j k v w (Append bytes) same named = leads_none (within n) j k v

  pub leads_begun : (j : Option Record) (k : ℕ) (v w : World) (next : Option Change) → v.nodes ≡ w.nodes → IfSome next IsNamed → Leads (at (within n) j k v) (begun_record n w next) (within n) k
  leads_begun j k v w None same named = leads_none (within n) j k v
  leads_begun j k v w (Some change) same named = leads_filed j k v w change same named

  leads_change : (j : Option Record) (k : ℕ) (v w : World) (change : Change) → v.nodes ≡ w.nodes → is_of_act change ≡ true → IsNamed change →
      Leads (at (within n) j k v) (file_record n change w ++ Did change ∷ []) (within n) (suc k)
  leads_change j k v w (PutFile path bytes) same of_act named = record {
    written = None;
    on = λ more rest. (_, refl, file_may j k v w path bytes same named, ((refl, (refl, refl)), rest));
  }
  leads_change j k v w (PutDir path) same of_act named = record { written = None; on = λ more rest. ((refl, tt), rest) }
  leads_change j k v w (Remove path) same of_act named = record { written = None; on = λ more rest. ((refl, tt), rest) }
  leads_change j k v w (SetPerms path perms) same of_act named = record { written = None; on = λ more rest. ((refl, tt), rest) }
  leads_change j k v w (PutService name row) same of_act named = record { written = None; on = λ more rest. ((refl, tt), rest) }
  leads_change j k v w (PutLock key moment) same of_act named = absurd (false≢true of_act)
  leads_change j k v w (Append bytes) same of_act named = absurd (false≢true of_act)

  pub leads_changed : (made : List Change) (j : Option Record) (k l : ℕ) (v w : World) → v.nodes ≡ w.nodes → AreOfActs made → All IsNamed made → l ≡ k + length made →
      Leads (at (within n) j k v) (changed n w made) (within n) l
  leads_changed [] j k l v w same of_acts named counted =
      let P : ℕ → Type 0 = λ c. Leads (at (within n) j k v) [] (within n) c in
      let e : k ≡ l = omega (arith, counted) in
      subst P e (leads_none (within n) j k v)
  leads_changed (change ∷ made) j k l v w same of_acts named counted =
      let here : List Entry = file_record n change w ++ Did change ∷ [] in
      let next : World = after_change change w in
      let P : List Entry → Type 0 = λ entries. Leads (at (within n) j k v) entries (within n) l in
      let e : l ≡ suc k + length made = omega (arith, counted) in
      subst P (append_assoc (file_record n change w) (Did change ∷ []) (changed n next made))
      (leads_then (at (within n) j k v) here (changed n next made) (within n) (within n) (suc k) l
      (leads_change j k v w change same (All-head (λ change. is_of_act change ≡ true) change made of_acts) (All-head IsNamed change made named))
      (λ i. leads_changed made i (suc k) l (after here v) next (nodes_next n change w v w same)
      (All-tail (λ change. is_of_act change ≡ true) change made of_acts) (All-tail IsNamed change made named) e))

  pub leads_closed : (j : Option Record) (k : ℕ) (v : World) (failure : Option Reason) → k < 2 ^ 32 → IsRepaired k failure →
      Leads (at (within n) j k v) (appended (closing_record n k failure) ∷ []) (Between Two) 0
  leads_closed j k v None few some = leads_record (within n) j k v (Repaired n k) (((count, (some, few)), same_number n), refl)
  leads_closed j k v (Some reason) few some = leads_record (within n) j k v (Failed n (number_of reason)) (((count, reason_fits reason), same_number n), tt)
