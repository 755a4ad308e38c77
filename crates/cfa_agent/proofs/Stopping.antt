-- What stops who tells, by what stopped a part of its work.
use Rattle.std.proofs.Common.{◌≡◌, ℕ, ◌≤◌, List, Result, Ok, Err, IfErr, refl, sym, ap, subst, ◌∙◌, arith}
use Rattle.cfa_base.specs.Causes.{Rose}
use Rattle.cfa_base.specs.lemmas.Causes.{rose_later}
use Rattle.cfa_base.specs.Shown.{Shown, Follows}
use Rattle.cfa_outside.specs.declared.sites.Entry.{Entry}
use Rattle.cfa_outside.specs.Sites.{Told, adds}
use Rattle.cfa_output.specs.declared.ends.Object.TheVariants.{Inputs, Site, Sink}
use Rattle.cfa_output.specs.declared.ends.Stop.{Stop}
use Rattle.cfa_output.specs.declared.ends.Stop.TheVariants.{Outside, Memory, Visits, Pattern}
use Rattle.cfa_states.specs.Levels.{Faults, Later, Stops, IsTellersStop}
use Rattle.cfa_agent.specs.Ending.{StopsTeller}
use Rattle.cfa_agent.specs.Actuating.{StopsBySite}

-- by the site, behind some of the work
pub site_stops : (first : Faults) (before after : Shown Told) (n : ℕ) (stop : Stop) → first.0 ≤ before.faults → n ≡ first.1 → StopsBySite before after stop → StopsTeller first (after.faults, n) stop
site_stops first before after n (Outside Inputs) le same h = h
site_stops first before after n (Outside Site) le same h = (rose_later first.0 before.faults after.faults le h.rose, same)
site_stops first before after n (Outside Sink) le same h = absurd h
site_stops first before after n Memory le same h = same
site_stops first before after n Visits le same h = h
site_stops first before after n (Pattern text) le same h = h

-- by want of memory
pub memory_stops : (first : Faults) (n m : ℕ) (stop : Stop) → m ≡ first.1 → stop ≡ Memory → StopsTeller first (n, m) stop
memory_stops first n m stop same is = subst (StopsTeller first (n, m)) (sym is) same

stops_by : (before after : Faults) (stop : Stop) → StopsTeller before after stop → Stops before after stop
stops_by before after (Outside Inputs) h = h
stops_by before after (Outside Site) h = h
stops_by before after (Outside Sink) h = absurd h
stops_by before after Memory h = h
stops_by before after Visits h = absurd h
stops_by before after (Pattern text) h = absurd h

own_stop : (before after : Faults) (stop : Stop) → StopsTeller before after stop → IsTellersStop stop
own_stop before after (Outside Inputs) h = absurd h
own_stop before after (Outside Site) h = tt
own_stop before after (Outside Sink) h = absurd h
own_stop before after Memory h = tt
own_stop before after Visits h = h
own_stop before after (Pattern text) h = h

-- as a level above tells it
pub teller_stops : {X : Type 0} (before after : Faults) (result : Result X Stop) → IfErr result (StopsTeller before after) → IfErr result (Stops before after)
teller_stops before after (Ok answer) h = tt
teller_stops before after (Err stop) h = stops_by before after stop h

pub teller_owns : {X : Type 0} (before after : Faults) (result : Result X Stop) → IfErr result (StopsTeller before after) → IfErr result IsTellersStop
teller_owns before after (Ok answer) h = tt
teller_owns before after (Err stop) h = own_stop before after stop h

-- a visit is stopped by the site
pub visit_stops : {X : Type 0} (before after : Shown Told) (n : ℕ) (result : Result X Stop) → IfErr result (StopsBySite before after) → IfErr result (StopsTeller (before.faults, n) (after.faults, n))
visit_stops before after n (Ok answer) h = tt
visit_stops before after n (Err stop) h = site_stops (before.faults, n) before after n stop (omega arith) refl h

-- ---- counts behind an answer

pub later_told : (site site1 site' : Shown Told) (entries : List Entry) →
    site.faults ≤ site1.faults → Follows (adds entries) site1 site' → Later (site.faults, 0) (site'.faults, 0)
later_told site site1 site' entries le locked =
    let P : ℕ → Type 0 = λ n. site.faults ≤ n in
    (subst P (sym (ap (λ (s : Shown Told). s.faults) locked)) le, refl)
