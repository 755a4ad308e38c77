-- What the answers for one instance say by counts alone.
use Rattle.std.proofs.Common.{◌≡◌, ℕ, ◌+◌, ◌≤◌, Bool, true, false, List, Option, Some, None, Result, Ok, Err, refl, sym, ap, subst, ◌∙◌, arith}
use Rattle.std.specs.Prelude.{if◌then◌else◌, nat_lt, OnOk, ⊤}
use Rattle.cfa_base.specs.Shown.{Shown, Follows}
use Rattle.cfa_outside.specs.declared.sites.Call.{Call}
use Rattle.cfa_outside.specs.declared.sites.Entry.{Entry}
use Rattle.cfa_outside.specs.Sites.{Told, adds}
use Rattle.cfa_acts.specs.declared.acts.Reason.{Reason}
use Rattle.cfa_output.specs.declared.ends.Stop.{Stop}
use Rattle.cfa_resolve.specs.declared.instances.Instance.{Instance}
use Rattle.cfa_outcomes.specs.declared.outcomes.Outcome.{Outcome}
use Rattle.cfa_outcomes.specs.declared.outcomes.Outcome.TheVariants.{Kept, Repaired, Failed}
use Rattle.cfa_agent.specs.declared.actuating.Actuation.{Actuation}
use Rattle.cfa_agent.specs.declared.progress.Running.{Running}
use Rattle.cfa_agent.specs.declared.running.Tally.{Tally}
use Rattle.cfa_agent.specs.Actuating.{FaultsBy, IsCaused}
use Rattle.cfa_agent.specs.Ending.{Hears, heard, acted_on, one_ended, outcome_counted, outcome_ended, tallied}
use Rattle.cfa_agent.specs.Faults.{IsCalmUnless, faults_counted_none}
use Rattle.cfa_agent.specs.Ran.{CountsFaults}

-- a call is refused only where an act fails for it
pub calm_by : (refused : Option Call) (failure : Option Reason) (before after : Shown Told) → FaultsBy refused before after → IsCaused refused failure → IsCalmUnless failure before after
calm_by None None before after same caused = same
calm_by None (Some reason) before after same caused = tt
calm_by (Some call) failure before after fault caused =
    let P : Option Reason → Type 0 = λ failure. IsCalmUnless failure before after in
    subst P (sym caused) tt

-- the count of faults by an outcome
abbrev pub IsCalm : Outcome → (f g : ℕ) → Type 0
IsCalm Kept f g = g ≡ f
IsCalm Repaired f g = g ≡ f
IsCalm Failed f g = ⊤

still_calm : (outcome : Outcome) (f : ℕ) → IsCalm outcome f f
still_calm Kept f = refl
still_calm Repaired f = refl
still_calm Failed f = tt

calm_changed : (changed : Bool) (f g : ℕ) → g ≡ f → IsCalm (if changed then Repaired else Kept) f g
calm_changed true f g same = same
calm_changed false f g same = same

calm_counted : (changes : ℕ) (failure : Option Reason) (before after : Shown Told) → IsCalmUnless failure before after → IsCalm (outcome_counted changes failure) before.faults after.faults
calm_counted changes None before after calm = calm_changed (nat_lt 0 changes) before.faults after.faults calm
calm_counted changes (Some reason) before after calm = tt

one_counted : (outcome : Outcome) (tally : Tally) (f g : ℕ) → f ≤ g → IsCalm outcome f g → CountsFaults tally.failed (one_ended outcome tally).failed f g
one_counted Kept tally f g le calm = record { failed_later = omega arith; later = le; calm = λ same. calm }
one_counted Repaired tally f g le calm = record { failed_later = omega arith; later = le; calm = λ same. calm }
one_counted Failed tally f g le calm = record { failed_later = omega arith; later = le; calm = λ same. absurd (omega (arith, same)) }

-- an instance that has ended is counted, and its lock set
settled_counted : (r q r' : Running) (site site1 site' : Shown Told) (entries : List Entry) (outcome : Outcome) → site.faults ≤ site1.faults → IsCalm outcome site.faults site1.faults →
    q.tally ≡ r.tally → Follows (adds entries) site1 site' → r' ≡ tallied outcome q → CountsFaults r.tally.failed r'.tally.failed site.faults site'.faults
settled_counted r q r' site site1 site' entries outcome le calm same locked counted =
    let failed_is : (one_ended outcome r.tally).failed ≡ r'.tally.failed =
    sym (ap (λ (q : Running). q.tally.failed) counted ∙ ap (λ (t : Tally). (one_ended outcome t).failed) same) in
    let faults_are : site1.faults ≡ site'.faults = sym (ap (λ (s : Shown Told). s.faults) locked) in
    let P : ℕ → Type 0 = λ n. CountsFaults r.tally.failed n site.faults site1.faults in
    let Q : ℕ → Type 0 = λ n. CountsFaults r.tally.failed r'.tally.failed site.faults n in
    subst Q faults_are (subst P failed_is (one_counted outcome r.tally site.faults site1.faults le calm))

pub plain_counted : (r r' : Running) (site site' : Shown Told) (entries : List Entry) (outcome : Outcome) → Follows (adds entries) site site' → r' ≡ tallied outcome r →
    CountsFaults r.tally.failed r'.tally.failed site.faults site'.faults
plain_counted r r' site site' entries outcome locked counted =
    settled_counted r r r' site site site' entries outcome (omega arith) (still_calm outcome site.faults) refl locked counted

pub acts_counted : (r q r' : Running) (site site1 site' : Shown Told) (entries : List Entry) (a : Actuation) (outcome : Outcome) → q ≡ acted_on a r → IsCalmUnless a.failure site site1 →
    site.faults ≤ site1.faults → outcome ≡ outcome_ended a → Follows (adds entries) site1 site' → r' ≡ tallied outcome q →
    CountsFaults r.tally.failed r'.tally.failed site.faults site'.faults
acts_counted r q r' site site1 site' entries a outcome acted calm le is locked counted =
    let P : Outcome → Type 0 = λ outcome. IsCalm outcome site.faults site1.faults in
    settled_counted r q r' site site1 site' entries outcome le (subst P (sym is) (calm_counted a.changes a.failure site site1 calm))
    (ap (λ (q : Running). q.tally) acted) locked counted

failed_heard : (skipped : Bool) (r : Running) → (heard skipped r).tally.failed ≡ r.tally.failed
failed_heard true r = refl
failed_heard false r = refl

-- a visit
pub visit_counted : (r r' : Running) (site site' : Shown Told) (instance : Instance) (result : Result Bool Stop) → Hears r r' instance site site' result →
    OnOk result (CountsFaults r.tally.failed r'.tally.failed site.faults site'.faults)
visit_counted r r' site site' instance (Ok skipped) hears =
    let failed_is : r.tally.failed ≡ r'.tally.failed = sym (ap (λ (q : Running). q.tally.failed) hears.counted ∙ failed_heard skipped r) in
    let faults_are : site.faults ≡ site'.faults = sym (ap (λ (s : Shown Told). s.faults) hears.untouched) in
    let P : ℕ → Type 0 = λ n. CountsFaults r.tally.failed n site.faults site.faults in
    let Q : ℕ → Type 0 = λ n. CountsFaults r.tally.failed r'.tally.failed site.faults n in
    subst Q faults_are (subst P failed_is (faults_counted_none r.tally.failed site.faults))
visit_counted r r' site site' instance (Err stop) hears = tt
