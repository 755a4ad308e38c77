-- What a change comes to, by what was found for its record, what was written before it, and how the site answered it.
use Rattle.std.proofs.Common.{◌≡◌, ℕ, ◌<◌, false, List, [], ◌∷◌, ◌++◌, length, Some, None, Option, option_map, IfSome, IsTrue, sym, subst, ap, ◌∙◌, append_assoc, arith}
use Rattle.std.proofs.lemmas.Bool.{true≢false}
use Rattle.cfa_base.specs.Shown.{Shown, Follows}
use Rattle.cfa_outside.specs.declared.sites.Call.{Call}
use Rattle.cfa_outside.specs.declared.sites.Call.TheVariants as calls
use Rattle.cfa_outside.specs.declared.sites.Change.{Change}
use Rattle.cfa_outside.specs.declared.sites.Entry.{Entry}
use Rattle.cfa_outside.specs.declared.sites.Entry.TheVariants.{Did, Refused}
use Rattle.cfa_outside.specs.declared.worlds.World.{World}
use Rattle.cfa_outside.specs.Paths.{path_of}
use Rattle.cfa_outside.specs.Sites.{Told, fits, adds, after}
use Rattle.cfa_acts.specs.declared.acts.Decision.{Decision}
use Rattle.cfa_acts.specs.declared.acts.Decision.TheVariants as decisions
use Rattle.cfa_journal.specs.declared.records.Record.{Record}
use Rattle.cfa_resolve.specs.declared.instances.Instance.{Instance}
use Rattle.cfa_agent.specs.declared.recording.Heading.{Heading}
use Rattle.cfa_agent.specs.declared.actuating.Step.{Step}
use Rattle.cfa_agent.specs.declared.actuating.Step.TheVariants as steps
use Rattle.cfa_agent.specs.Actuations.{is_change, file_record}
use Rattle.cfa_agent.specs.Actuating.{opening_at, change_entries, IsMade, IsLookRefused, Takes, StepFaults}
use Rattle.cfa_agent.specs.Digesting.{OfWorld, recorded}
use Rattle.cfa_agent.specs.Hosts.{SameHost}
use Rattle.cfa_agent.specs.lemmas.Hosts.{after_both, same_host, same_trans, same_recorded}
use Rattle.cfa_agent.proofs.Hosts.{same_back, same_opened, fits_same}
use Rattle.cfa_agent.proofs.Logs.{told_along, fault_behind}

-- ---- a change that fits

along : (told : Option Told) (P Q : Told → Type 0) (entries : List Entry) → ((t : Told) → P t → Q (adds entries t)) → IfSome told P → IfSome (option_map (adds entries) told) Q
along None P Q entries f h = tt
along (Some t) P Q entries f h = f t h

same_record : (file : Option Record) (w : World) → SameHost (after (recorded file) w) w
same_record None w = same_host w
same_record (Some file) w = same_recorded file w

same_begun : (changes : ℕ) (heading : Heading) (instance : Instance) (file : Option Record) (w : World) → SameHost (after (opening_at changes heading instance ++ recorded file) w) w
same_begun changes heading instance file w =
    subst (λ v. SameHost v w) (sym (after_both (opening_at changes heading instance) (recorded file) w))
    (same_trans _ (after (opening_at changes heading instance) w) w (same_record file (after (opening_at changes heading instance) w)) (same_opened changes heading instance w))

-- it still fits behind the records that stand before it
pub fits_begun : (changes : ℕ) (heading : Heading) (instance : Instance) (file : Option Record) (change : Change) (before after' : Shown Told) →
    IfSome before.told (λ t. IsTrue (fits change t.world)) → Follows (adds (opening_at changes heading instance ++ recorded file)) before after' → IfSome after'.told (λ t. IsTrue (fits change t.world))
fits_begun changes heading instance file change before after' fit follows =
    let entries : List Entry = opening_at changes heading instance ++ recorded file in
    let P : Option Told → Type 0 = λ told. IfSome told (λ t. IsTrue (fits change t.world)) in
    subst P (sym (ap (λ (s : Shown Told). s.told) follows))
    (along before.told (λ t. IsTrue (fits change t.world)) (λ t. IsTrue (fits change t.world)) entries
    (λ t h. fits_same change t.world (after entries t.world) (same_back _ _ (same_begun changes heading instance file t.world)) h) fit)

-- ---- what came of it

told_each : (told told' : Option Told) (f : Told → Told) (P Q : Told → Type 0) → told' ≡ option_map f told → IfSome told P → ((t : Told) → P t → told' ≡ Some (f t) → Q t) → IfSome told Q
told_each None told' f P Q is h g = tt
told_each (Some t) told' f P Q is h g = g t h is

-- the entries of a change and of its record, as the definition has them
as_defined : (opened : List Entry) (n : ℕ) (file : Option Record) (change : Change) (entry : Entry) (t : Told) → recorded file ≡ file_record n change t.world →
    (opened ++ recorded file) ++ entry ∷ [] ≡ change_entries n opened change entry t.world
as_defined opened n file change entry t is =
    append_assoc opened (recorded file) (entry ∷ []) ∙ ap (λ record'. opened ++ (record' ++ entry ∷ [])) is

made_so : (opened : List Entry) (n : ℕ) (file : Option Record) (change : Change) (entry : Entry) (before mid after' : Shown Told) →
    IfSome before.told (λ t. recorded file ≡ file_record n change t.world) → Follows (adds (opened ++ recorded file)) before mid → after'.told ≡ option_map (adds (entry ∷ [])) mid.told →
    IfSome before.told (λ t. after'.told ≡ Some (adds (change_entries n opened change entry t.world) t))
made_so opened n file change entry before mid after' told begun made =
    told_each before.told after'.told (adds ((opened ++ recorded file) ++ entry ∷ [])) (λ t. recorded file ≡ file_record n change t.world) _
    (told_along (opened ++ recorded file) (entry ∷ []) before.told mid.told after'.told (ap (λ (s : Shown Told). s.told) begun) made) told
    (λ t is so. so ∙ ap (λ entries. Some (adds entries t)) (as_defined opened n file change entry t is))

pub made_takes : (opened : List Entry) (n : ℕ) (file : Option Record) (change : Change) (before mid after' : Shown Told) (step : Step) →
    OfWorld (λ world. recorded file ≡ file_record n change world) before → Follows (adds (opened ++ recorded file)) before mid → IsMade change mid after' step →
    IfSome before.told (λ t. Takes n opened (decisions.Needs change) step after' t)
made_takes opened n file change before mid after' steps.Kept told begun made = absurd made
made_takes opened n file change before mid after' steps.Changed told begun made = made_so opened n file change (Did change) before mid after' told begun (ap (λ (s : Shown Told). s.told) made)
made_takes opened n file change before mid after' (steps.Failed reason) told begun made = absurd made
made_takes opened n file change before mid after' (steps.Refused calls.Change) told begun made = made_so opened n file change (Refused calls.Change) before mid after' told begun made.told
made_takes opened n file change before mid after' (steps.Refused calls.Look) told begun made = absurd made
made_takes opened n file change before mid after' (steps.Refused calls.Read) told begun made = absurd made
made_takes opened n file change before mid after' (steps.Refused calls.Perms) told begun made = absurd made
made_takes opened n file change before mid after' (steps.Refused calls.Service) told begun made = absurd made
made_takes opened n file change before mid after' (steps.Refused calls.Lock) told begun made = absurd made
made_takes opened n file change before mid after' (steps.Refused calls.Children) told begun made = absurd made

pub made_faults : (change : Change) (entries : List Entry) (before mid after' : Shown Told) (step : Step) → Follows (adds entries) before mid → IsMade change mid after' step → StepFaults step before after'
made_faults change entries before mid after' steps.Kept begun made = absurd made
made_faults change entries before mid after' steps.Changed begun made = ap (λ (s : Shown Told). s.faults) made ∙ ap (λ (s : Shown Told). s.faults) begun
made_faults change entries before mid after' (steps.Failed reason) begun made = absurd made
made_faults change entries before mid after' (steps.Refused calls.Change) begun made =
    fault_behind before mid after' (ap (λ (s : Shown Told). s.faults) begun) (record { rose = made.rose; later = made.later })
made_faults change entries before mid after' (steps.Refused calls.Look) begun made = absurd made
made_faults change entries before mid after' (steps.Refused calls.Read) begun made = absurd made
made_faults change entries before mid after' (steps.Refused calls.Perms) begun made = absurd made
made_faults change entries before mid after' (steps.Refused calls.Service) begun made = absurd made
made_faults change entries before mid after' (steps.Refused calls.Lock) begun made = absurd made
made_faults change entries before mid after' (steps.Refused calls.Children) begun made = absurd made

-- ---- a look that was refused

look_takes : (opened : List Entry) (n : ℕ) (d : Decision) (call : Call) (after' : Shown Told) (t : Told) → IsLookRefused call after' t → Takes n opened d (steps.Refused call) after' t
look_takes opened n decisions.Kept call after' t look = look
look_takes opened n (decisions.Fail reason) call after' t look = look
look_takes opened n (decisions.Fault failed) call after' t look = look
look_takes opened n (decisions.Needs change) calls.Look after' t look = look
look_takes opened n (decisions.Needs change) calls.Read after' t look = look
look_takes opened n (decisions.Needs change) calls.Perms after' t look = look
look_takes opened n (decisions.Needs change) calls.Service after' t look = look
look_takes opened n (decisions.Needs change) calls.Lock after' t look = look
look_takes opened n (decisions.Needs change) calls.Children after' t look = look
look_takes opened n (decisions.Needs change) calls.Change after' t look = absurd (true≢false look.0)

pub refused_takes : (opened : List Entry) (n : ℕ) (decided : World → Decision) (call : Call) (before after' : Shown Told) → is_change call ≡ false → after'.told ≡ option_map (adds (Refused call ∷ [])) before.told →
    IfSome before.told (λ t. Takes n opened (decided t.world) (steps.Refused call) after' t)
refused_takes opened n decided call before after' look told =
    told_each before.told after'.told (adds (Refused call ∷ [])) (λ t. Unit {0}) _ told (each before.told) (λ t h so. look_takes opened n (decided t.world) call after' t (look, so)) where
      each : (told : Option Told) → IfSome told (λ t. Unit {0})
      each None = tt
      each (Some t) = tt

-- ---- paths

-- a path isn't empty
pub path_filled : (path : List ℕ) → path_of path ≡ Some path → 0 < length path
unfolding path_of
path_filled [] is = absurd (cc)
path_filled (b ∷ path) is = omega arith
