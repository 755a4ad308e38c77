-- What holds of what an object of the outside tells.
use Rattle.std.proofs.Common.{◌≡◌, ℕ, List, Some, None, Option, sym, ap, subst, ◌∙◌, IfSome}
use Rattle.cfa_base.specs.lemmas.Options.{some_weaker, each_some}
use Rattle.cfa_base.specs.Causes.{Rose}
use Rattle.cfa_base.specs.Shown.{Shown, followed, Follows, Untouched}
use Rattle.cfa_outside.specs.Sinks.{adds_bytes}
use Rattle.cfa_outside.specs.Sites.{Told}
use Rattle.cfa_agent.specs.Ran.{IfBothTold}
use Rattle.cfa_main.specs.Done.{HasFault}

-- ---- before and after

-- an untouched site tells one thing
pub untouched_both : (H : Told → Told → Type 0) (site site' : Shown Told) → Untouched site site' → ((t : Told) → H t t) → IfBothTold H site site'
untouched_both H site site' un f = subst (λ (s : Shown Told). IfBothTold H site s) (sym un) (each site.told) where
  each : (o : Option Told) → IfSome o (λ before. IfSome o (λ after. H before after))
  each None = tt
  each (Some t) = f t

pub both_weaker : (P Q : Told → Told → Type 0) (site site' : Shown Told) → ((before after : Told) → P before after → Q before after) → IfBothTold P site site' → IfBothTold Q site site'
both_weaker P Q site site' f h = some_weaker site.told _ _ (λ before _ more. some_weaker site'.told _ _ (λ after _ p. f before after p) more) h

pub both : (P Q R : Told → Told → Type 0) (site site' : Shown Told) → ((before after : Told) → P before after → Q before after → R before after) →
    IfBothTold P site site' → IfBothTold Q site site' → IfBothTold R site site'
both P Q R site site' f p q = by site.told p q where
  at_end : (b : Told) (o : Option Told) → IfSome o (P b) → IfSome o (Q b) → IfSome o (R b)
  at_end b None p q = tt
  at_end b (Some a) p q = f b a p q

  by : (o : Option Told) → IfSome o (λ b. IfSome site'.told (P b)) → IfSome o (λ b. IfSome site'.told (Q b)) → IfSome o (λ b. IfSome site'.told (R b))
  by None p q = tt
  by (Some b) p q = at_end b site'.told p q

pub each_both : (H : Told → Told → Type 0) (site site' : Shown Told) → ((before after : Told) → H before after) → IfBothTold H site site'
each_both H site site' f = each_some site.told _ (λ before _. each_some site'.told _ (λ after _. f before after))

-- ---- what is put

-- where nothing was put before
pub along : (line : List ℕ) (out mid out' : Shown (List ℕ)) → Untouched out mid → Follows (adds_bytes line) mid out' → Follows (adds_bytes line) out out'
along line out mid out' un put = put ∙ ap (followed (adds_bytes line)) un

-- ---- counts of faults

pub fault_along : {T : Type 0} (a b c : Shown T) → b.faults ≡ a.faults → HasFault b c → HasFault a c
fault_along a b c same h = subst (λ n. Rose n c.faults) same h

pub fault_before : {T : Type 0} (a b c : Shown T) → HasFault a b → c.faults ≡ b.faults → HasFault a c
fault_before a b c h same = subst (λ n. Rose a.faults n) (sym same) h
