-- What was seen at one time is joined with what was seen at a later one.
use Rattle.std.proofs.Common.{Option, Some, None, IfSome, Result, Ok, Err, [], ◌∷◌, refl, sym, subst, ◌∙◌}
use Rattle.std.proofs.lemmas.Option.{IfSome_then}
use Rattle.cfa_base.specs.Shown.{Shown, HasFailed, IsLeft}
use Rattle.cfa_outside.specs.declared.sites.Entry.TheVariants.{Refused}
use Rattle.cfa_outside.specs.declared.worlds.World.{World}
use Rattle.cfa_outside.specs.Sites.{Told, adds}
use Rattle.cfa_acts.specs.declared.seeing.SeeErr.{SeeErr}
use Rattle.cfa_acts.specs.declared.seeing.SeeErr.TheVariants.{Failed, NoMemory}
use Rattle.cfa_acts.specs.Seeing.{OfWorld, IsSeen, Sees}

some_both : {A : Type 0} (o : Option A) (P Q : A → Type 0) → IfSome o P → IfSome o Q → IfSome o (λ x. P x × Q x)
some_both None P Q h k = h
some_both (Some x) P Q h k = (h, k)

pub of_all : (P : World → Type 0) (shown : Shown Told) → ((w : World) → P w) → OfWorld P shown
of_all P shown each = every shown.told where
  every : (o : Option Told) → IfSome o (λ t. P t.world)
  every None = tt
  every (Some t) = each t.world

pub of_weaker : (P Q : World → Type 0) (shown : Shown Told) → ((w : World) → P w → Q w) → OfWorld P shown → OfWorld Q shown
of_weaker P Q shown f h = IfSome_then shown.told h (λ t. f t.world)

pub of_both : (P Q : World → Type 0) (shown : Shown Told) → OfWorld P shown → OfWorld Q shown → OfWorld (λ w. P w × Q w) shown
of_both P Q shown h k = some_both shown.told (λ t. P t.world) (λ t. Q t.world) h k

pub weaker : (P Q : World → Type 0) (before after : Shown Told) → ((w : World) → P w → Q w) → IsSeen P before after → IsSeen Q before after
weaker P Q before after f seen = record {
  holds = IfSome_then before.told seen.holds (λ t. f t.world);
  shown = seen.shown;
}

pub both : (P Q : World → Type 0) (before between after : Shown Told) → IsSeen P before between → IsSeen Q between after → IsSeen (λ w. P w × Q w) before after
both P Q before between after p q = record {
  holds = some_both before.told (λ t. P t.world) (λ t. Q t.world) p.holds (subst (OfWorld Q) p.shown q.holds);
  shown = q.shown ∙ p.shown;
}

-- what was seen still holds afterwards
pub at_end : (P Q : World → Type 0) (before after : Shown Told) → ((w : World) → P w → Q w) → IsSeen P before after → OfWorld Q after
at_end P Q before after f seen =
    subst (OfWorld Q) (sym seen.shown) (IfSome_then before.told seen.holds (λ t. f t.world))

-- what holds now was seen without a call
pub now : (P : World → Type 0) (shown : Shown Told) → OfWorld P shown → IsSeen P shown shown
now P shown h = record { holds = h; shown = refl }

-- what was seen, and then what a further call answered
pub seen_then : {X : Type 0} (P : World → Type 0) (Q R : X → World → Type 0) (before between after : Shown Told) (r : Result X SeeErr) → ((x : X) (w : World) → P w → Q x w → R x w) → IsSeen P before between → Sees Q between after r → Sees R before after r
seen_then P Q R before between after (Ok x) f p q = weaker _ (R x) before after (λ w e. f x w e.0 e.1) (both P (Q x) before between after p q)
seen_then P Q R before between after (Err (Failed call)) f p q = subst (λ (s : Shown Told). HasFailed (adds (Refused call ∷ [])) s after) p.shown q
seen_then P Q R before between after (Err NoMemory) f p q = subst (λ (s : Shown Told). IsLeft s after) p.shown q
