-- What was found at one time is joined with what was found at a later one, and what looks and reads tell of a digest.
use Rattle.std.proofs.Common.{◌≡◌, ℕ, Bool, true, false, nat_le, List, length, Option, Some, None, IfSome, refl, sym, ap, subst, ◌∙◌}
use Rattle.std.specs.Prelude.{if◌then◌else◌}
use Rattle.std.specs.FinMap as map
use Rattle.std.proofs.lemmas.Option.{IfSome_then}
use Rattle.cfa_base.specs.declared.limits.TheConstants.{MOST_FILE_BYTES}
use Rattle.cfa_base.specs.Shown.{Shown}
use Rattle.cfa_outside.specs.declared.worlds.Node.{Node}
use Rattle.cfa_outside.specs.declared.worlds.Node.TheVariants.{File, Dir}
use Rattle.cfa_outside.specs.declared.worlds.World.{World}
use Rattle.cfa_outside.specs.Worlds.{shows, look_at, is_blocked, has_below, is_readable, bytes_in}
use Rattle.cfa_outside.specs.Sites.{Told, look_of}
use Rattle.cfa_journal.specs.declared.records.Digest.{Digest}
use Rattle.cfa_journal.specs.declared.records.Digest.TheVariants.{Over, Sha}
use Rattle.cfa_locks.specs.Locks.{digest_of}
use Rattle.cfa_agent.specs.Actuations.{content_digest}
use Rattle.cfa_agent.specs.Digesting.{OfWorld, IsFound, digest_seen}

some_both : {A : Type 0} (o : Option A) (P Q : A → Type 0) → IfSome o P → IfSome o Q → IfSome o (λ x. P x × Q x)
some_both None P Q h k = h
some_both (Some x) P Q h k = (h, k)

pub weaker : (P Q : World → Type 0) (before after : Shown Told) → ((w : World) → P w → Q w) → IsFound P before after → IsFound Q before after
weaker P Q before after f found = record {
  holds = IfSome_then before.told found.holds (λ t. f t.world);
  shown = found.shown;
}

pub both : (P Q : World → Type 0) (before between after : Shown Told) → IsFound P before between → IsFound Q between after → IsFound (λ w. P w × Q w) before after
both P Q before between after p q = record {
  holds = some_both before.told (λ t. P t.world) (λ t. Q t.world) p.holds (subst (OfWorld Q) p.shown q.holds);
  shown = q.shown ∙ p.shown;
}

pub at_end : (P Q : World → Type 0) (before after : Shown Told) → ((w : World) → P w → Q w) → IsFound P before after → OfWorld Q after
at_end P Q before after f found =
    subst (OfWorld Q) (sym found.shown) (IfSome_then before.told found.holds (λ t. f t.world))

-- ---- digests

by_size : (short : Bool) (text : List ℕ) (d : Digest) → (if short then None else Some Over) ≡ Some d → d ≡ (if short then Sha (digest_of text) else Over)
by_size true text d is = absurd (cc)
by_size false text d is = cc

short_or : (short : Bool) → (if short then None else Some Over) ≡ None → short ≡ true
short_or true is = refl
short_or false is = absurd (cc)

seen_by : (here : Option Node) (blocked below : Bool) (d : Digest) → digest_seen (shows here blocked below) ≡ Some d → d ≡ content_digest here
seen_by (Some (File text perms)) blocked below d is = by_size (nat_le (length text) MOST_FILE_BYTES) text d is
seen_by (Some (Dir perms)) blocked below d is = cc
seen_by None true below d is = cc
seen_by None false below d is = cc

-- what a look tells of it
pub seen_digest : (path : List ℕ) (w : World) (d : Digest) → digest_seen (look_of w path) ≡ Some d → d ≡ content_digest (map.get w.nodes path)
unfolding look_at
seen_digest path w d is = seen_by (map.get w.nodes path) (is_blocked w.nodes path) (has_below w.nodes path) d is

readable_by : (here : Option Node) (blocked below : Bool) → digest_seen (shows here blocked below) ≡ None → is_readable here ≡ true
readable_by (Some (File text perms)) blocked below is = short_or (nat_le (length text) MOST_FILE_BYTES) is
readable_by (Some (Dir perms)) blocked below is = absurd (cc)
readable_by None true below is = absurd (cc)
readable_by None false below is = absurd (cc)

-- a file that is to be read for it may be
pub seen_readable : (path : List ℕ) (w : World) → digest_seen (look_of w path) ≡ None → is_readable (map.get w.nodes path) ≡ true
unfolding look_at
seen_readable path w is = readable_by (map.get w.nodes path) (is_blocked w.nodes path) (has_below w.nodes path) is

-- its bytes tell it
pub read_digest : (bytes : List ℕ) (here : Option Node) → bytes_in here ≡ Some bytes → is_readable here ≡ true → Sha (digest_of bytes) ≡ content_digest here
read_digest bytes (Some (File text perms)) is short =
    let same : text ≡ bytes = cc in
    ap (λ text. Sha (digest_of text)) (sym same) ∙ sym (ap (λ b. if b then Sha (digest_of text) else Over) short)
read_digest bytes (Some (Dir perms)) is short = absurd (cc)
read_digest bytes None is short = absurd (cc)
