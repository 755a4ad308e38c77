-- Entries that are added to a log one after the other.
use Rattle.std.proofs.Common.{◌≡◌, ◌≤◌, List, [], ◌++◌, Some, None, Option, option_map, Result, Ok, Err, refl, sym, ap, subst, ◌∙◌, append_assoc}
use Rattle.cfa_base.specs.Causes.{Rose}
use Rattle.cfa_base.specs.Shown.{Shown, followed, Follows}
use Rattle.cfa_outside.specs.declared.sites.Entry.{Entry}
use Rattle.cfa_outside.specs.Sites.{Told, adds, after}
use Rattle.cfa_output.specs.declared.ends.Object.TheVariants.{Inputs, Site, Sink}
use Rattle.cfa_output.specs.declared.ends.Stop.{Stop}
use Rattle.cfa_output.specs.declared.ends.Stop.TheVariants.{Outside, Memory, Visits, Pattern}
use Rattle.cfa_agent.specs.lemmas.Hosts.{after_both, adds_none}
use Rattle.cfa_agent.specs.Actuating.{HasFault, StopsBySite, Writes}

-- ---- logs

pub adds_both : (a b : List Entry) (t : Told) → adds b (adds a t) ≡ adds (a ++ b) t
adds_both a b t i = record { world = sym (after_both a b t.world) i; log = append_assoc t.log a b i }

-- nothing happens
pub follows_none : (site : Shown Told) → Follows (adds []) site site
follows_none site i = record { told = none site.told i; faults = site.faults } where
  none : (told : Option Told) → told ≡ option_map (adds []) told
  none None = refl
  none (Some t) = ap Some (sym (adds_none t))

told_both : (a b : List Entry) (told : Option Told) → option_map (adds b) (option_map (adds a) told) ≡ option_map (adds (a ++ b)) told
told_both a b None = refl
told_both a b (Some t) = ap Some (adds_both a b t)

-- what happens in two parts happens as one
pub follows_both : (a b : List Entry) (site : Shown Told) → followed (adds b) (followed (adds a) site) ≡ followed (adds (a ++ b)) site
follows_both a b site i = record { told = told_both a b site.told i; faults = site.faults }

pub follows_then : (a b : List Entry) (before mid after : Shown Told) → Follows (adds a) before mid → Follows (adds b) mid after → Follows (adds (a ++ b)) before after
follows_then a b before mid after first then = then ∙ ap (followed (adds b)) first ∙ follows_both a b before

pub told_along : (a b : List Entry) (before mid after : Option Told) → mid ≡ option_map (adds a) before → after ≡ option_map (adds b) mid → after ≡ option_map (adds (a ++ b)) before
told_along a b before mid after first then = then ∙ ap (option_map (adds b)) first ∙ told_both a b before

-- ---- counts of faults

pub fault_behind : (before mid after : Shown Told) → mid.faults ≡ before.faults → HasFault mid after → HasFault before after
fault_behind before mid after same h = record {
  rose = subst (λ n. Rose n after.faults) same h.rose;
  later = subst (λ n. n ≤ after.faults) same h.later;
}

pub stops_behind : (before mid after : Shown Told) (stop : Stop) → mid.faults ≡ before.faults → StopsBySite mid after stop → StopsBySite before after stop
stops_behind before mid after (Outside Inputs) same h = h
stops_behind before mid after (Outside Site) same h = fault_behind before mid after same h
stops_behind before mid after (Outside Sink) same h = h
stops_behind before mid after Memory same h = subst (λ n. n ≤ after.faults) same h
stops_behind before mid after Visits same h = h
stops_behind before mid after (Pattern text) same h = h

-- entries that are written in two parts
pub writes_then : (a b : List Entry) (before mid after : Shown Told) (result : Result (Unit {0}) Stop) → Follows (adds a) before mid → Writes b mid after result → Writes (a ++ b) before after result
writes_then a b before mid after (Ok done) first then = record {
  written = follows_then a b before mid after first then.written;
  stopped = tt;
}
writes_then a b before mid after (Err stop) first then = record {
  written = tt;
  stopped = stops_behind before mid after stop (ap (λ (s : Shown Told). s.faults) first) then.stopped;
}
