-- Of the code alone: what looking at a site for the digest of a file answers, and what it leaves the site to show.
use Rattle.std.specs.Prelude.{◌≡◌, false, nat_le, if◌then◌else◌, List, [], ◌∷◌, Option, Some, None, IfSome, Result, Ok, Err}
use Rattle.cfa_base.specs.Shown.{Shown, Untouched, HasFailed, IsLeft}
use Rattle.cfa_base.specs.declared.limits.TheConstants.{MOST_FILE_BYTES}
use Rattle.cfa_outside.specs.declared.sites.Call.{Call}
use Rattle.cfa_outside.specs.declared.sites.Look.{Look}
use Rattle.cfa_outside.specs.declared.sites.Look.TheVariants as look
use Rattle.cfa_outside.specs.declared.sites.Entry.{Entry}
use Rattle.cfa_outside.specs.declared.sites.Entry.TheVariants.{Refused}
use Rattle.cfa_outside.specs.declared.worlds.World.{World}
use Rattle.cfa_outside.specs.Sites.{Told, adds}
use Rattle.cfa_journal.specs.declared.records.Digest.{Digest}
use Rattle.cfa_journal.specs.declared.records.Digest.TheVariants.{Nothing, Over}
use Rattle.cfa_journal.specs.declared.records.Record.{Record}
use Rattle.cfa_agent.specs.declared.digesting.DigestErr.{DigestErr}
use Rattle.cfa_agent.specs.declared.digesting.DigestErr.TheVariants.{Failed, NoMemory}
use Rattle.cfa_agent.specs.Actuations.{is_change, appended}

-- this holds of the world, where it is told
abbrev pub OfWorld : (World → Type 0) → Shown Told → Type 0
OfWorld P shown = IfSome shown.told (λ t. P t.world)

-- what was found is so on the world, and the site is as it was
pub record IsFound (P : World → Type 0) (before after : Shown Told) : Type 0 where
  pub holds : OfWorld P before
  pub shown : Untouched before after

-- a look or a read was refused
pub record IsRefused (call : Call) (before after : Shown Told) : Type 0 where
  pub no_change : is_change call ≡ false
  pub failed : HasFailed (adds (Refused call ∷ [])) before after

abbrev pub Finds : {X : Type 0} → (X → World → Type 0) → (before after : Shown Told) → Result X DigestErr → Type 0
Finds P before after (Ok x) = IsFound (P x) before after
Finds P before after (Err (Failed call)) = IsRefused call before after
Finds P before after (Err NoMemory) = IsLeft before after

-- the digest that a look tells; none where a file is to be read for it
abbrev pub digest_seen : Look → Option Digest
digest_seen look.Nothing = Some Nothing
digest_seen look.Blocked = Some Nothing
digest_seen (look.File size) = if nat_le size MOST_FILE_BYTES then None else Some Over
digest_seen (look.Dir is_empty) = Some Nothing

-- the entry of a record, if there is one
abbrev pub recorded : Option Record → List Entry
recorded None = []
recorded (Some file) = appended file ∷ []
