-- An actuation that has come to some act.
use Rattle.std.proofs.Common.{◌≡◌, ℕ, suc, ◌+◌, ◌<◌, ◌≤◌, true, false, ◌||◌, nat_lt, List, [], ◌∷◌, ◌++◌, length, get_or, take, drop, Some, None, Option, IfSome, refl, sym, ap, subst, ◌∙◌, arith, append-nil, append_assoc, length-append}
use Rattle.std.specs.Prelude.{if◌then◌else◌}
use Rattle.std.proofs.lemmas.Bool.{lt-ltb}
use Rattle.std.proofs.lemmas.List.{at_drop_more, at_drop_all}
use Rattle.std.proofs.Math.Seq.{take-append_seam, drop-append_seam}
use Rattle.cfa_base.specs.lemmas.Options.{some_weaker, each_some}
use Rattle.cfa_base.specs.Shown.{Shown}
use Rattle.cfa_outside.specs.declared.worlds.World.{World}
use Rattle.cfa_outside.specs.declared.sites.Call.{Call}
use Rattle.cfa_outside.specs.declared.sites.Call.TheVariants as calls
use Rattle.cfa_outside.specs.declared.sites.Change.{Change}
use Rattle.cfa_outside.specs.declared.sites.Entry.{Entry}
use Rattle.cfa_outside.specs.declared.sites.Entry.TheVariants.{Did, Refused}
use Rattle.cfa_outside.specs.Sites.{Told, adds, after, after_change}
use Rattle.cfa_acts.specs.declared.acts.Act.{Act}
use Rattle.cfa_acts.specs.declared.acts.Reason.{Reason}
use Rattle.cfa_acts.specs.declared.acts.Reason.TheVariants.{Fault}
use Rattle.cfa_acts.specs.declared.acts.Decision.{Decision}
use Rattle.cfa_acts.specs.declared.acts.Decision.TheVariants as decisions
use Rattle.cfa_acts.specs.Acts.{decision}
use Rattle.cfa_resolve.specs.declared.instances.Instance.{Instance}
use Rattle.cfa_states.specs.Tellers.{Actuated, actuated, actuated_by, after_all, changing}
use Rattle.cfa_agent.specs.declared.actuating.Actuation.{Actuation}
use Rattle.cfa_agent.specs.declared.actuating.Step.TheVariants as steps
use Rattle.cfa_agent.specs.declared.recording.Heading.{Heading}
use Rattle.cfa_agent.specs.Hosts.{SameHost}
use Rattle.cfa_agent.specs.Actuations.{Done, done_by, begun_by, first_of, is_change, is_some_change, changed, file_record}
use Rattle.cfa_agent.specs.Actuating.{opening, opening_at, change_entries, IsLookRefused, Takes, DoesActs, mark_by, acted, acted_by}
use Rattle.cfa_agent.specs.lemmas.Hosts.{after_both, adds_none, same_after, same_host, same_trans, same_filed, same_changed}
use Rattle.cfa_agent.proofs.Logs.{adds_both}
use Rattle.cfa_agent.proofs.Hosts.{same_opened, same_opening, same_file_record, actuated_same}

-- some changes, and then what acts do
abbrev pub behind : List Change → Actuated → Actuated
behind made planned = record { changes = made ++ planned.changes; failure = planned.failure }

-- the entries of some changes that are made from a world on
abbrev pub begun : (number : ℕ) → (opened : List Entry) → World → List Change → List Entry
begun number opened world [] = []
begun number opened world (change ∷ made) = opened ++ changed number world (change ∷ made)

-- the changes so far were made, and all acts do these and then what the acts that are left do
pub record SoFar (heading : Heading) (instance : Instance) (whole rest : List Act) (count : ℕ) (site' : Shown Told) (start : Told) : Type 0 where
  pub now : Told
  pub told_is : site'.told ≡ Some now
  pub made : List Change
  pub counted : count ≡ length made
  pub does : now ≡ adds (begun heading.number (opening heading instance) start.world made) start
  pub left : actuated whole start.world ≡ behind made (actuated rest now.world)

-- ---- lists

changed_both : (n : ℕ) (w : World) (a b : List Change) → changed n w (a ++ b) ≡ changed n w a ++ changed n (after_all a w) b
changed_both n w [] b = refl
changed_both n w (change ∷ a) b =
    ap (λ entries. file_record n change w ++ (Did change ∷ entries)) (changed_both n (after_change change w) a b)
    ∙ sym (append_assoc (file_record n change w) (Did change ∷ changed n (after_change change w) a) (changed n (after_all a (after_change change w)) b))

pub some_made : (n : ℕ) → nat_lt 0 (suc n) ≡ true
some_made n = lt-ltb 0 (suc n) (omega arith)

-- a change behind some others, or the next one that is refused
begun_next : (heading : Heading) (instance : Instance) (w : World) (first : Change) (made : List Change) (more : List Entry) →
    begun heading.number (opening heading instance) w (first ∷ made) ++ (opening_at (length (first ∷ made)) heading instance ++ more)
    ≡ opening heading instance ++ (changed heading.number w (first ∷ made) ++ more)
begun_next heading instance w first made more =
    ap (λ b. (opening heading instance ++ changed heading.number w (first ∷ made)) ++ ((if b then [] else opening heading instance) ++ more)) (some_made (length made))
    ∙ append_assoc (opening heading instance) (changed heading.number w (first ∷ made)) more

-- one change more
begun_more : (heading : Heading) (instance : Instance) (w : World) (made : List Change) (change : Change) →
    begun heading.number (opening heading instance) w made ++ change_entries heading.number (opening_at (length made) heading instance) change (Did change) (after_all made w)
    ≡ begun heading.number (opening heading instance) w (made ++ change ∷ [])
begun_more heading instance w [] change = refl
begun_more heading instance w (first ∷ made) change =
    begun_next heading instance w first made (file_record heading.number change (after_all (first ∷ made) w) ++ Did change ∷ [])
    ∙ ap (λ entries. opening heading instance ++ entries) (sym (changed_both heading.number w (first ∷ made) (change ∷ [])))

-- what was done, where a call was refused behind some changes
abbrev pub refused_at : List Change → Option Change → Call → Done
refused_at made next call = record {
  changes = made;
  begun = next;
  refused = Some call;
  failure = Some Fault;
  is_begun = is_some_change made || is_change call;
}

-- the next change is refused
begun_refused : (heading : Heading) (instance : Instance) (w : World) (made : List Change) (change : Change) →
    begun heading.number (opening heading instance) w made ++ change_entries heading.number (opening_at (length made) heading instance) change (Refused calls.Change) (after_all made w)
    ≡ acted heading.number (opening heading instance) w (refused_at made (Some change) calls.Change)
begun_refused heading instance w [] change = refl
begun_refused heading instance w (first ∷ made) change =
    begun_next heading instance w first made (file_record heading.number change (after_all (first ∷ made) w) ++ Refused calls.Change ∷ [])

-- a look is refused
begun_look : (n : ℕ) (opened : List Entry) (w : World) (made : List Change) (call : Call) → is_change call ≡ false →
    begun n opened w made ++ (Refused call ∷ []) ≡ acted n opened w (refused_at made None call)
begun_look n opened w [] call look = sym (ap (acted_by n opened w (refused_at [] None call)) look)
begun_look n opened w (first ∷ made) call look = append_assoc opened (changed n w (first ∷ made)) (Refused call ∷ [])

-- no call was refused
begun_plain : (n : ℕ) (opened : List Entry) (w : World) (made : List Change) (failure : Option Reason) →
    begun n opened w made ≡ acted n opened w (record { changes = made; begun = None; refused = None; failure = failure; is_begun = is_some_change made })
begun_plain n opened w [] failure = refl
begun_plain n opened w (first ∷ made) failure = ap (λ entries. opened ++ entries) (sym (append-nil (changed n w (first ∷ made))))

-- what some changes leave of the host
begun_same : (heading : Heading) (instance : Instance) (w : World) (made : List Change) → SameHost (after (begun heading.number (opening heading instance) w made) w) (after_all made w)
begun_same heading instance w [] = same_host w
begun_same heading instance w (first ∷ made) =
    subst (λ v. SameHost v (after_all (first ∷ made) w)) (sym (after_both (opening heading instance) (changed heading.number w (first ∷ made)) w))
    (same_changed heading.number (first ∷ made) w (after (opening heading instance) w) (same_opening heading instance w))

-- the record of a file that is put next tells what stands there
record_here : (heading : Heading) (instance : Instance) (start now : Told) (made : List Change) (change : Change) →
    now ≡ adds (begun heading.number (opening heading instance) start.world made) start →
    file_record heading.number change now.world ≡ file_record heading.number change (after_all made start.world)
record_here heading instance start now made change does =
    ap (λ (t : Told). file_record heading.number change t.world) does
    ∙ same_file_record heading.number change _ _ (begun_same heading instance start.world made)

-- ---- the turns of the loop

so_far_none : (heading : Heading) (instance : Instance) (acts : List Act) (site : Shown Told) (start : Told) → site.told ≡ Some start → SoFar heading instance acts acts 0 site start
so_far_none heading instance acts site start is = record {
  now = start;
  told_is = is;
  made = [];
  counted = refl;
  does = sym (adds_none start);
  left = refl;
}

pub so_far_start : (heading : Heading) (instance : Instance) (acts : List Act) (site : Shown Told) → IfSome site.told (SoFar heading instance acts acts 0 site)
so_far_start heading instance acts site = each_some site.told _ (λ t is. so_far_none heading instance acts site t is)

-- an act that is kept
kept_more : (heading : Heading) (instance : Instance) (whole rest : List Act) (count : ℕ) (site' site'' : Shown Told) (start now : Told) (made : List Change) (d : Decision) (number : ℕ) (opened : List Entry) (f : Change → Actuated) →
    site'.told ≡ Some now → count ≡ length made → now ≡ adds (begun heading.number (opening heading instance) start.world made) start →
    actuated whole start.world ≡ behind made (actuated_by d (actuated rest now.world) f) → Takes number opened d steps.Kept site'' now → SoFar heading instance whole rest count site'' start
kept_more heading instance whole rest count site' site'' start now made decisions.Kept number opened f is counted does left takes =
    record { now = now; told_is = takes; made = made; counted = counted; does = does; left = left }
kept_more heading instance whole rest count site' site'' start now made (decisions.Needs change) number opened f is counted does left takes = absurd takes
kept_more heading instance whole rest count site' site'' start now made (decisions.Fail reason) number opened f is counted does left takes = absurd takes
kept_more heading instance whole rest count site' site'' start now made (decisions.Fault call) number opened f is counted does left takes = absurd takes

-- the records before a change do nothing to what acts do behind it
left_same : (heading : Heading) (instance : Instance) (count : ℕ) (change : Change) (rest : List Act) (now : Told) →
    actuated rest (after_change change now.world) ≡ actuated rest (adds (change_entries heading.number (opening_at count heading instance) change (Did change) now.world) now).world
left_same heading instance count change rest now =
    let opened : World = after (opening_at count heading instance) now.world in
    let file : List Entry = file_record heading.number change now.world in
    sym (actuated_same rest (after_change change (after file opened)) (after_change change now.world)
    (same_after change _ _ (same_trans (after file opened) opened now.world (same_filed heading.number change now.world opened) (same_opened count heading instance now.world))))
    ∙ ap (actuated rest) (sym (after_both (opening_at count heading instance) (file ++ Did change ∷ []) now.world ∙ after_both file (Did change ∷ []) opened))

-- what the next change adds
abbrev pub one_change : Heading → Instance → (count : ℕ) → Change → Told → List Entry
one_change heading instance count change now =
    change_entries heading.number (opening_at count heading instance) change (Did change) now.world

changed_more : (heading : Heading) (instance : Instance) (whole rest : List Act) (count : ℕ) (site'' : Shown Told) (start now : Told) (made : List Change) (d : Decision) →
    count ≡ length made → now ≡ adds (begun heading.number (opening heading instance) start.world made) start →
    actuated whole start.world ≡ behind made (actuated_by d (actuated rest now.world) (λ change. actuated rest (after_change change now.world))) →
    Takes heading.number (opening_at count heading instance) d steps.Changed site'' now → SoFar heading instance whole rest (count + 1) site'' start
changed_more heading instance whole rest count site'' start now made (decisions.Needs change) counted does left takes = record {
  now = adds (one_change heading instance count change now) now;
  told_is = takes;
  made = made ++ change ∷ [];
  counted = omega (arith, counted, length-append made (change ∷ []));
  does =
      ap (adds (one_change heading instance count change now)) does
      ∙ adds_both (begun heading.number (opening heading instance) start.world made) (one_change heading instance count change now) start
      ∙ ap (λ file. adds (begun heading.number (opening heading instance) start.world made ++ (opening_at count heading instance ++ (file ++ Did change ∷ []))) start) (record_here heading instance start now made change does)
      ∙ ap (λ n. adds (begun heading.number (opening heading instance) start.world made ++ change_entries heading.number (opening_at n heading instance) change (Did change) (after_all made start.world)) start) counted
      ∙ ap (λ entries. adds entries start) (begun_more heading instance start.world made change);
  left =
      left
      ∙ ap (λ planned. behind made (changing change planned)) (left_same heading instance count change rest now)
      ∙ split (actuated rest (adds (one_change heading instance count change now) now).world);
} where
  split : (planned : Actuated) → behind made (changing change planned) ≡ behind (made ++ change ∷ []) planned
  split planned i = record { changes = sym (append_assoc made (change ∷ []) planned.changes) i; failure = planned.failure }
changed_more heading instance whole rest count site'' start now made decisions.Kept counted does left takes = absurd takes
changed_more heading instance whole rest count site'' start now made (decisions.Fail reason) counted does left takes = absurd takes
changed_more heading instance whole rest count site'' start now made (decisions.Fault call) counted does left takes = absurd takes

-- what is left at some act
next_left : (whole : List Act) (i : ℕ) (asked : Act) (w : World) → i < length whole → asked ≡ get_or whole i asked →
    actuated (drop i whole) w ≡ actuated_by (decision asked w) (actuated (drop (i + 1) whole) w) (λ change. actuated (drop (i + 1) whole) (after_change change w))
next_left whole i asked w lt at =
    at_drop_more (λ acts. actuated acts w) whole i asked lt ∙ ap (λ (a : Act). actuated (a ∷ drop (i + 1) whole) w) (sym at)

told_here : (site' : Shown Told) (now : Told) (P : Told → Type 0) → site'.told ≡ Some now → IfSome site'.told P → P now
told_here site' now P is h = let Q : Option Told → Type 0 = λ told. IfSome told P in subst Q is h

pub so_far_kept : (heading : Heading) (instance : Instance) (whole : List Act) (i : ℕ) (asked : Act) (count : ℕ) (site site' site'' : Shown Told) → i < length whole → asked ≡ get_or whole i asked →
    IfSome site.told (SoFar heading instance whole (drop i whole) count site') →
    IfSome site'.told (λ t. Takes heading.number (opening_at count heading instance) (decision asked t.world) steps.Kept site'' t) →
    IfSome site.told (SoFar heading instance whole (drop (i + 1) whole) count site'')
so_far_kept heading instance whole i asked count site site' site'' lt at before takes = some_weaker site.told _ _ (λ start _ (s : SoFar heading instance whole (drop i whole) count site' start).
    kept_more heading instance whole (drop (i + 1) whole) count site' site'' start s.now s.made (decision asked s.now.world) heading.number (opening_at count heading instance) (λ change. actuated (drop (i + 1) whole) (after_change change s.now.world)) s.told_is s.counted s.does
    (s.left ∙ ap (behind s.made) (next_left whole i asked s.now.world lt at))
    (told_here site' s.now (λ t. Takes heading.number (opening_at count heading instance) (decision asked t.world) steps.Kept site'' t) s.told_is takes)) before

pub so_far_changed : (heading : Heading) (instance : Instance) (whole : List Act) (i : ℕ) (asked : Act) (count : ℕ) (site site' site'' : Shown Told) → i < length whole → asked ≡ get_or whole i asked →
    IfSome site.told (SoFar heading instance whole (drop i whole) count site') →
    IfSome site'.told (λ t. Takes heading.number (opening_at count heading instance) (decision asked t.world) steps.Changed site'' t) →
    IfSome site.told (SoFar heading instance whole (drop (i + 1) whole) (count + 1) site'')
so_far_changed heading instance whole i asked count site site' site'' lt at before takes = some_weaker site.told _ _ (λ start _ (s : SoFar heading instance whole (drop i whole) count site' start).
    changed_more heading instance whole (drop (i + 1) whole) count site'' start s.now s.made (decision asked s.now.world) s.counted s.does
    (s.left ∙ ap (behind s.made) (next_left whole i asked s.now.world lt at))
    (told_here site' s.now (λ t. Takes heading.number (opening_at count heading instance) (decision asked t.world) steps.Changed site'' t) s.told_is takes)) before

-- ---- the ends of the loop

abbrev ended : (count : ℕ) → Option Reason → Option Call → Actuation
ended count failure refused = record { changes = count; failure = failure; refused = refused }

plain_done : (heading : Heading) (instance : Instance) (whole : List Act) (count : ℕ) (site'' : Shown Told) (start now : Told) (made : List Change) (failure : Option Reason) →
    count ≡ length made → now ≡ adds (begun heading.number (opening heading instance) start.world made) start →
    actuated whole start.world ≡ behind made (record { changes = []; failure = failure }) → site''.told ≡ Some now →
    DoesActs (acted heading.number (opening heading instance)) (done_by (actuated whole start.world) None) site'' (ended count failure None) start
plain_done heading instance whole count site'' start now made failure counted does left told =
    let P : Actuated → Type 0 = λ planned. DoesActs (acted heading.number (opening heading instance)) (done_by planned None) site'' (ended count failure None) start in
    subst P (sym (left ∙ (λ i. record { changes = append-nil made i; failure = failure }))) (record {
      failure = refl;
      changes = counted;
      told = told ∙ ap Some (does ∙ ap (λ entries. adds entries start) (begun_plain heading.number (opening heading instance) start.world made failure));
    })

refused_done : (heading : Heading) (instance : Instance) (whole : List Act) (count : ℕ) (site'' : Shown Told) (start now : Told) (made : List Change) (planned : Actuated) (call : Call) (next : Option Change) (more : List Entry) →
    count ≡ length made → now ≡ adds (begun heading.number (opening heading instance) start.world made) start → actuated whole start.world ≡ behind made planned →
    begun_by call planned.changes ≡ next →
    begun heading.number (opening heading instance) start.world made ++ more ≡ acted heading.number (opening heading instance) start.world (refused_at made next call) →
    site''.told ≡ Some (adds more now) →
    DoesActs (acted heading.number (opening heading instance)) (done_by (actuated whole start.world) (mark_by heading.number count (Some call))) site'' (ended count (Some Fault) (Some call)) start
refused_done heading instance whole count site'' start now made planned call next more counted does left next_is all told =
    let changes : List Change = made ++ planned.changes in
    let same : done_by (actuated whole start.world) (mark_by heading.number count (Some call)) ≡ refused_at made next call =
    ap (λ p. done_by p (mark_by heading.number count (Some call))) left
    ∙ ap (λ n. refused_at (take n changes) (begun_by call (drop n changes)) call) counted
    ∙ ap (λ front. refused_at front (begun_by call (drop (length made) changes)) call) (take-append_seam made planned.changes)
    ∙ ap (λ left. refused_at made (begun_by call left) call) (drop-append_seam made planned.changes)
    ∙ ap (λ next. refused_at made next call) next_is in
    let P : Done → Type 0 = λ done. DoesActs (acted heading.number (opening heading instance)) done site'' (ended count (Some Fault) (Some call)) start in
    subst P (sym same) (record {
      failure = refl;
      changes = counted;
      told =
          told
          ∙ ap Some (ap (adds more) does
          ∙ adds_both (begun heading.number (opening heading instance) start.world made) more start
          ∙ ap (λ entries. adds entries start) all);
    })

look_done : (heading : Heading) (instance : Instance) (whole : List Act) (count : ℕ) (site'' : Shown Told) (start now : Told) (made : List Change) (planned : Actuated) (call : Call) →
    count ≡ length made → now ≡ adds (begun heading.number (opening heading instance) start.world made) start → actuated whole start.world ≡ behind made planned →
    IsLookRefused call site'' now →
    DoesActs (acted heading.number (opening heading instance)) (done_by (actuated whole start.world) (mark_by heading.number count (Some call))) site'' (ended count (Some Fault) (Some call)) start
look_done heading instance whole count site'' start now made planned call counted does left look =
    refused_done heading instance whole count site'' start now made planned call None (Refused call ∷ []) counted does left
    (ap (λ b. if b then first_of planned.changes else None) look.0)
    (begun_look heading.number (opening heading instance) start.world made call look.0) look.1

change_done : (heading : Heading) (instance : Instance) (whole : List Act) (count : ℕ) (site'' : Shown Told) (start now : Told) (made : List Change) (change : Change) (planned : Actuated) →
    count ≡ length made → now ≡ adds (begun heading.number (opening heading instance) start.world made) start → actuated whole start.world ≡ behind made (changing change planned) →
    site''.told ≡ Some (adds (change_entries heading.number (opening_at count heading instance) change (Refused calls.Change) now.world) now) →
    DoesActs (acted heading.number (opening heading instance)) (done_by (actuated whole start.world) (mark_by heading.number count (Some calls.Change))) site'' (ended count (Some Fault) (Some calls.Change)) start
change_done heading instance whole count site'' start now made change planned counted does left told =
    refused_done heading instance whole count site'' start now made (changing change planned) calls.Change (Some change)
    (change_entries heading.number (opening_at count heading instance) change (Refused calls.Change) now.world) counted does left refl
    (ap (λ file. begun heading.number (opening heading instance) start.world made ++ (opening_at count heading instance ++ (file ++ Refused calls.Change ∷ []))) (record_here heading instance start now made change does)
    ∙ ap (λ n. begun heading.number (opening heading instance) start.world made ++ change_entries heading.number (opening_at n heading instance) change (Refused calls.Change) (after_all made start.world)) counted
    ∙ begun_refused heading instance start.world made change) told

refused_by : (heading : Heading) (instance : Instance) (whole : List Act) (count : ℕ) (site'' : Shown Told) (start now : Told) (made : List Change) (d : Decision) (kept : Actuated) (f : Change → Actuated) (call : Call) →
    count ≡ length made → now ≡ adds (begun heading.number (opening heading instance) start.world made) start → actuated whole start.world ≡ behind made (actuated_by d kept f) →
    Takes heading.number (opening_at count heading instance) d (steps.Refused call) site'' now →
    DoesActs (acted heading.number (opening heading instance)) (done_by (actuated whole start.world) (mark_by heading.number count (Some call))) site'' (ended count (Some Fault) (Some call)) start
refused_by heading instance whole count site'' start now made decisions.Kept kept f call counted does left takes = look_done heading instance whole count site'' start now made _ call counted does left takes
refused_by heading instance whole count site'' start now made (decisions.Fail reason) kept f call counted does left takes = look_done heading instance whole count site'' start now made _ call counted does left takes
refused_by heading instance whole count site'' start now made (decisions.Fault failed) kept f call counted does left takes = look_done heading instance whole count site'' start now made _ call counted does left takes
refused_by heading instance whole count site'' start now made (decisions.Needs change) kept f calls.Change counted does left takes = change_done heading instance whole count site'' start now made change (f change) counted does left takes
refused_by heading instance whole count site'' start now made (decisions.Needs change) kept f calls.Look counted does left takes = look_done heading instance whole count site'' start now made _ calls.Look counted does left takes
refused_by heading instance whole count site'' start now made (decisions.Needs change) kept f calls.Read counted does left takes = look_done heading instance whole count site'' start now made _ calls.Read counted does left takes
refused_by heading instance whole count site'' start now made (decisions.Needs change) kept f calls.Perms counted does left takes = look_done heading instance whole count site'' start now made _ calls.Perms counted does left takes
refused_by heading instance whole count site'' start now made (decisions.Needs change) kept f calls.Service counted does left takes = look_done heading instance whole count site'' start now made _ calls.Service counted does left takes
refused_by heading instance whole count site'' start now made (decisions.Needs change) kept f calls.Lock counted does left takes = look_done heading instance whole count site'' start now made _ calls.Lock counted does left takes
refused_by heading instance whole count site'' start now made (decisions.Needs change) kept f calls.Children counted does left takes = look_done heading instance whole count site'' start now made _ calls.Children counted does left takes

failed_done : (heading : Heading) (instance : Instance) (whole rest : List Act) (count : ℕ) (site'' : Shown Told) (start now : Told) (made : List Change) (d : Decision) (number : ℕ) (opened : List Entry) (reason : Reason) (f : Change → Actuated) →
    count ≡ length made → now ≡ adds (begun heading.number (opening heading instance) start.world made) start →
    actuated whole start.world ≡ behind made (actuated_by d (actuated rest now.world) f) → Takes number opened d (steps.Failed reason) site'' now →
    DoesActs (acted heading.number (opening heading instance)) (done_by (actuated whole start.world) None) site'' (ended count (Some reason) None) start
failed_done heading instance whole rest count site'' start now made (decisions.Fail failed) number opened reason f counted does left takes =
    plain_done heading instance whole count site'' start now made (Some reason) counted does (left ∙ ap (λ (r : Reason). behind made (record { changes = []; failure = Some r })) (sym takes.0)) takes.1
failed_done heading instance whole rest count site'' start now made decisions.Kept number opened reason f counted does left takes = absurd takes
failed_done heading instance whole rest count site'' start now made (decisions.Needs change) number opened reason f counted does left takes = absurd takes
failed_done heading instance whole rest count site'' start now made (decisions.Fault call) number opened reason f counted does left takes = absurd takes

pub so_far_failed : (heading : Heading) (instance : Instance) (whole : List Act) (i : ℕ) (asked : Act) (count : ℕ) (site site' site'' : Shown Told) (reason : Reason) → i < length whole → asked ≡ get_or whole i asked →
    IfSome site.told (SoFar heading instance whole (drop i whole) count site') →
    IfSome site'.told (λ t. Takes heading.number (opening_at count heading instance) (decision asked t.world) (steps.Failed reason) site'' t) →
    IfSome site.told (λ t. DoesActs (acted heading.number (opening heading instance)) (done_by (actuated whole t.world) None) site'' (ended count (Some reason) None) t)
so_far_failed heading instance whole i asked count site site' site'' reason lt at before takes = some_weaker site.told _ _ (λ start _ (s : SoFar heading instance whole (drop i whole) count site' start).
    failed_done heading instance whole (drop (i + 1) whole) count site'' start s.now s.made (decision asked s.now.world) heading.number (opening_at count heading instance) reason (λ change. actuated (drop (i + 1) whole) (after_change change s.now.world)) s.counted s.does
    (s.left ∙ ap (behind s.made) (next_left whole i asked s.now.world lt at))
    (told_here site' s.now (λ t. Takes heading.number (opening_at count heading instance) (decision asked t.world) (steps.Failed reason) site'' t) s.told_is takes)) before

pub so_far_refused : (heading : Heading) (instance : Instance) (whole : List Act) (i : ℕ) (asked : Act) (count : ℕ) (site site' site'' : Shown Told) (call : Call) → i < length whole → asked ≡ get_or whole i asked →
    IfSome site.told (SoFar heading instance whole (drop i whole) count site') →
    IfSome site'.told (λ t. Takes heading.number (opening_at count heading instance) (decision asked t.world) (steps.Refused call) site'' t) →
    IfSome site.told (λ t. DoesActs (acted heading.number (opening heading instance)) (done_by (actuated whole t.world) (mark_by heading.number count (Some call))) site'' (ended count (Some Fault) (Some call)) t)
so_far_refused heading instance whole i asked count site site' site'' call lt at before takes = some_weaker site.told _ _ (λ start _ (s : SoFar heading instance whole (drop i whole) count site' start).
    refused_by heading instance whole count site'' start s.now s.made (decision asked s.now.world) (actuated (drop (i + 1) whole) s.now.world) (λ change. actuated (drop (i + 1) whole) (after_change change s.now.world)) call s.counted s.does
    (s.left ∙ ap (behind s.made) (next_left whole i asked s.now.world lt at))
    (told_here site' s.now (λ t. Takes heading.number (opening_at count heading instance) (decision asked t.world) (steps.Refused call) site'' t) s.told_is takes)) before

pub so_far_end : (heading : Heading) (instance : Instance) (whole : List Act) (i count : ℕ) (site site' : Shown Told) → length whole ≤ i →
    IfSome site.told (SoFar heading instance whole (drop i whole) count site') →
    IfSome site.told (λ t. DoesActs (acted heading.number (opening heading instance)) (done_by (actuated whole t.world) None) site' (ended count None None) t)
so_far_end heading instance whole i count site site' le before = some_weaker site.told _ _ (λ start _ (s : SoFar heading instance whole (drop i whole) count site' start).
    plain_done heading instance whole count site' start s.now s.made None s.counted s.does
    (s.left ∙ ap (behind s.made) (at_drop_all (λ acts. actuated acts s.now.world) whole i le)) s.told_is) before

pub same_count : (heading : Heading) (instance : Instance) (whole rest : List Act) (count count' : ℕ) (site site' : Shown Told) → count' ≡ count →
    IfSome site.told (SoFar heading instance whole rest count site') → IfSome site.told (SoFar heading instance whole rest count' site')
same_count heading instance whole rest count count' site site' same h =
    let P : ℕ → Type 0 = λ n. IfSome site.told (SoFar heading instance whole rest n site') in subst P (sym same) h
