-- A promise that is reached does what the move of the definition does.
use Rattle.std.proofs.Common.{◌≡◌, ◌∙◌, ℕ, ◌+◌, Bool, true, false, List, length, Option, IsTrue, OnOk, inl, refl, ap, sym, subst, arith, ⊎_elim, ◌⊎◌}
use Rattle.std.specs.Prelude.{Result, Ok, Err, IfOk, nat_le, ⊤}
use Rattle.cfa_base.specs.Shown.{Shown}
use Rattle.cfa_kinds.specs.declared.kinds.PromiseType.{PromiseType}
use Rattle.cfa_kinds.specs.declared.kinds.PromiseType.TheVariants as promises
use Rattle.cfa_output.specs.declared.ends.Stop.{Stop}
use Rattle.cfa_output.specs.declared.ends.Stop.TheVariants.{Outside, Memory, Visits, Pattern}
use Rattle.cfa_defines.specs.VarsPromises.{setting_choices}
use Rattle.cfa_resolve.specs.Resolution.{is_acting}
use Rattle.cfa_resolve.specs.declared.instances.Instance.{Instance}
use Rattle.cfa_resolve.specs.declared.instances.Resolved.{Resolved}
use Rattle.cfa_statuses.specs.declared.levels.Status.{Status}
use Rattle.cfa_statuses.specs.declared.levels.Status.TheVariants.{No, Maybe, Yes}
use Rattle.cfa_tree.specs.Tree.{PolicyTree}
use Rattle.cfa_frames.specs.Frames.{Frame}
use Rattle.cfa_frames.specs.Moves.{stays, reached_by, acting_next, kept_next, guarded_next}
use Rattle.cfa_states.specs.declared.activations.Activation.{Activation}
use Rattle.cfa_states.specs.declared.remembering.Found.{Found}
use Rattle.cfa_states.specs.declared.states.State.{State}
use Rattle.cfa_states.specs.Builds.{BuiltOn}
use Rattle.cfa_states.specs.Defining.{idle_level, vars_level, classes_level}
use Rattle.cfa_states.specs.History.{History, Where, visits_in}
use Rattle.cfa_states.specs.Kept.{SpareShorter}
use Rattle.cfa_states.specs.Levels.{GoesTo, IsTooLarge, QuietLevel, QuietDone, SpareIf, StandsAt, PatternsAre}
use Rattle.cfa_states.specs.Numbered.{Numbered}
use Rattle.cfa_states.specs.Passes.{Course, goes, too_large, classes_reached, most_visits, within_limit}
use Rattle.cfa_states.specs.Tellers.{all_kept}
use Rattle.cfa_states.specs.Views.{Setting, scopes_in}
use Rattle.cfa_states.specs.lemmas.Courses.{goes_weaker}
use Rattle.cfa_states.specs.lemmas.Spared.{spare_none, spare_reached}
use Rattle.cfa_visits.specs.Counting.{Counts, found_by, resolution_at, reached_event}
use Rattle.cfa_machine.specs.Reaching.{ReachedTo, Reaches, done_of, result_as}

-- ---- results

pub ok_as : (b : Bool) (result : Result (Unit {0}) Stop) (P : Type 0) → OnOk result P → OnOk (result_as b result) P
ok_as b (Ok done) P holds = holds
ok_as b (Err stop) P holds = tt

pub no_instances : (result : Result (Unit {0}) Stop) (P : Type 0) → IfOk (result_as false result) (λ has. has ≡ true → P)
no_instances (Ok done) P = λ is. cc
no_instances (Err stop) P = tt

pub has_instances : (result : Result (Unit {0}) Stop) (P : Type 0) → OnOk result P → IfOk (result_as true result) (λ has. has ≡ true → P)
has_instances (Ok done) P holds = λ is. holds
has_instances (Err stop) P holds = tt

pub patterns_as : (b : Bool) (result : Result (Unit {0}) Stop) (pats pats' : Shown (List (List ℕ))) → PatternsAre result pats pats' → PatternsAre (done_of (result_as b result)) pats pats'
patterns_as b (Ok done) pats pats' are = are
patterns_as b (Err stop) pats pats' are = are

-- ---- a course that is gone

module _ (policy : PolicyTree) (is_common : Bool) (s : Setting) (f : Frame) (h : History) (guard : Status) (kept : Option Found) (st' : State) (a' : Activation) where
  abbrev After : History → Type 0
  After k = StandsAt policy s f.home f.status st' a' k × (SpareShorter (length f.home.path) h k × SpareIf is_common h k)

  abbrev Given : Course → Result (Unit {0}) Stop → Type 0
  Given c (Ok done) = GoesTo c After
  Given c (Err (Outside object)) = ⊥
  Given c (Err Memory) = ⊤
  Given c (Err Visits) = IsTooLarge c
  Given c (Err (Pattern text)) = BuiltOn s c text

  course_reached : (c : Course) (result : Result (Unit {0}) Stop) → Given c result → ReachedTo policy is_common s f h guard kept st' a' (result_as false result) (reached_by c f)
  course_reached (goes k) (Ok done) given = (refl, given)
  course_reached (too_large k) (Ok done) given = absurd given
  course_reached c (Err (Outside object)) given = absurd given
  course_reached (goes k) (Err Memory) given = tt
  course_reached (too_large k) (Err Memory) given = tt
  course_reached (goes k) (Err Visits) given = absurd given
  course_reached (too_large k) (Err Visits) given = tt
  course_reached (goes k) (Err (Pattern text)) given = given
  course_reached (too_large k) (Err (Pattern text)) given = given

  quiet_given : (level : QuietLevel) (st : State) (a : Activation) (result : Result (Unit {0}) Stop) → QuietDone policy is_common level st st' a a' result →
      StandsAt policy s f.home f.status st a h → Given (level s f.home all_kept h) result
  quiet_given level st a (Ok done) does stands = goes_weaker (level s f.home all_kept h) _ After (λ k q. (q.0, q.1.1)) (does s f.home f.status all_kept h stands)
  quiet_given level st a (Err (Outside object)) does stands = does
  quiet_given level st a (Err Memory) does stands = tt
  quiet_given level st a (Err Visits) does stands = does s f.home f.status all_kept h stands
  quiet_given level st a (Err (Pattern text)) does stands = does s f.home f.status all_kept h stands

  pub quiet_reached : (level : QuietLevel) (st : State) (a : Activation) (result : Result (Unit {0}) Stop) → QuietDone policy is_common level st st' a a' result →
      StandsAt policy s f.home f.status st a h →
      ReachedTo policy is_common s f h guard kept st' a' (result_as false result) (reached_by (level s f.home all_kept h) f)
  quiet_reached level st a result does stands = course_reached (level s f.home all_kept h) result (quiet_given level st a result does stands)

-- ---- a promise, by the status of its guard and its type

set_next : (s : Setting) (f : Frame) (p : Numbered) (guard : Status) (h : History) → (guard ≡ No → ⊥) → guarded_next s f p guard h ≡ kept_next s f p p.type guard h
set_next s f p No h set = absurd (set refl)
set_next s f p Maybe h set = refl
set_next s f p Yes h set = refl

kept_acting : (s : Setting) (f : Frame) (p : Numbered) (type : PromiseType) (guard : Status) (h : History) → is_acting type ≡ true → kept_next s f p type guard h ≡ acting_next s f p type guard h
kept_acting s f p promises.Vars guard h acting = cc
kept_acting s f p promises.Classes guard h acting = cc
kept_acting s f p promises.Files guard h acting = refl
kept_acting s f p promises.Methods guard h acting = refl
kept_acting s f p promises.Services guard h acting = refl
kept_acting s f p promises.Reports guard h acting = refl
kept_acting s f p promises.DeleteLines guard h acting = cc
kept_acting s f p promises.FieldEdits guard h acting = cc
kept_acting s f p promises.InsertLines guard h acting = cc
kept_acting s f p promises.ReplacePatterns guard h acting = cc

kept_other : (s : Setting) (f : Frame) (p : Numbered) (type : PromiseType) (guard : Status) (h : History) → (type ≡ promises.Vars → ⊥) → (type ≡ promises.Classes → ⊥) →
    (type ≡ promises.Files → ⊥) → (type ≡ promises.Methods → ⊥) → (type ≡ promises.Services → ⊥) → (type ≡ promises.Reports → ⊥) → kept_next s f p type guard h ≡ stays f h
kept_other s f p promises.Vars guard h v c f' m v' r = absurd (v refl)
kept_other s f p promises.Classes guard h v c f' m v' r = absurd (c refl)
kept_other s f p promises.Files guard h v c f' m v' r = absurd (f' refl)
kept_other s f p promises.Methods guard h v c f' m v' r = absurd (m refl)
kept_other s f p promises.Services guard h v c f' m v' r = absurd (v' refl)
kept_other s f p promises.Reports guard h v c f' m v' r = absurd (r refl)
kept_other s f p promises.DeleteLines guard h v c f' m v' r = refl
kept_other s f p promises.FieldEdits guard h v c f' m v' r = refl
kept_other s f p promises.InsertLines guard h v c f' m v' r = refl
kept_other s f p promises.ReplacePatterns guard h v c f' m v' r = refl

pub acting_type : (type : PromiseType) → (type ≡ promises.Files) ⊎ ((type ≡ promises.Methods) ⊎ ((type ≡ promises.Services) ⊎ (type ≡ promises.Reports))) → IsTrue (is_acting type)
acting_type type is =
    ⊎_elim (λ e. ap is_acting e) (λ others. ⊎_elim (λ e. ap is_acting e) (λ rest. ⊎_elim (λ e. ap is_acting e) (λ e. ap is_acting e) rest) others) is

module _ (policy : PolicyTree) (is_common : Bool) (p : Numbered) (guard : Status) (kept : Option Found) (st st' : State) (a a' : Activation) (result : Result (Unit {0}) Stop) where
  pub reached_unset : guard ≡ No → QuietDone policy is_common (idle_level p) st st' a a' result → Reaches policy is_common p guard kept st st' a a' (result_as false result)
  reached_unset unset does = λ s f h stands raises.
      subst (λ (g : Status). ReachedTo policy is_common s f h guard kept st' a' (result_as false result) (guarded_next s f p g h)) (sym unset)
      (quiet_reached policy is_common s f h guard kept st' a' (idle_level p) st a result does stands)

  pub reached_vars : (guard ≡ No → ⊥) → p.type ≡ promises.Vars → QuietDone policy is_common (vars_level p guard) st st' a a' result →
      Reaches policy is_common p guard kept st st' a a' (result_as false result)
  reached_vars set is does = λ s f h stands raises.
      subst (ReachedTo policy is_common s f h guard kept st' a' (result_as false result))
      (sym (set_next s f p guard h set ∙ ap (λ (type : PromiseType). kept_next s f p type guard h) is))
      (quiet_reached policy is_common s f h guard kept st' a' (vars_level p guard) st a result does stands)

  pub reached_classes : (guard ≡ No → ⊥) → p.type ≡ promises.Classes → QuietDone policy is_common (classes_level is_common p guard) st st' a a' result →
      Reaches policy is_common p guard kept st st' a a' (result_as false result)
  reached_classes set is does = λ s f h stands raises.
      subst (ReachedTo policy is_common s f h guard kept st' a' (result_as false result))
      (sym (set_next s f p guard h set ∙ (ap (λ (type : PromiseType). kept_next s f p type guard h) is
      ∙ ap (λ (place : Where). reached_by (classes_reached s place f.home p guard (setting_choices (scopes_in s h f.home) promises.Classes p.promise) h) f) raises)))
      (quiet_reached policy is_common s f h guard kept st' a' (classes_level is_common p guard) st a result does stands)

-- a promise of no other type is in an agent bundle
pub reached_other : (policy : PolicyTree) (p : Numbered) (guard : Status) (kept : Option Found) (st : State) (a : Activation) → (guard ≡ No → ⊥) → (p.type ≡ promises.Vars → ⊥) →
    (p.type ≡ promises.Classes → ⊥) → (p.type ≡ promises.Files → ⊥) → (p.type ≡ promises.Methods → ⊥) → (p.type ≡ promises.Services → ⊥) → (p.type ≡ promises.Reports → ⊥) →
    Reaches policy false p guard kept st st a a (Ok false)
reached_other policy p guard kept st a set v c f' m v' r = λ s f h stands raises.
    subst (ReachedTo policy false s f h guard kept st a (Ok false))
    (sym (set_next s f p guard h set ∙ kept_other s f p p.type guard h v c f' m v' r))
    (refl, (stands, (spare_none (length f.home.path) h, tt)))

-- ---- a promise that has instances

module _ (policy : PolicyTree) (p : Numbered) (guard : Status) (kept : Option Found) (st st' : State) (a a' : Activation) where
  acting_reached : (s : Setting) (f : Frame) (h : History) (fits : Bool) (result : Result (Unit {0}) Stop) →
      StandsAt policy s f.home f.status st a h → Counts policy p guard st st' a a' (found_by kept result) →
      nat_le ((resolution_at s f.home p h).visits + visits_in h) most_visits ≡ fits →
      ReachedTo policy false s f h guard kept st' a' (result_as true result)
      (reached_by (within_limit fits (goes (reached_event f.home p guard (resolution_at s f.home p h) h)) (reached_event f.home p guard (resolution_at s f.home p h) h))
      (record f { guard = guard; instances = (resolution_at s f.home p h).instances }))
  acting_reached s f h true (Ok done) stands counts is =
      let r : Resolved = resolution_at s f.home p h in
      let n = counts s f.home f.status h stands in (
        ap (λ (xs : List Instance). record f { guard = guard; instances = xs }) n.0,
        (n.1.1, (spare_reached (length f.home.path) h f.home p guard false r.visits (omega arith), tt)),
      )
  acting_reached s f h false (Ok done) stands counts is =
      let n = counts s f.home f.status h stands in
      let both : true ≡ false = sym n.1.0 ∙ is in cc
  acting_reached s f h fits (Err (Outside object)) stands counts is = absurd counts
  acting_reached s f h true (Err Memory) stands counts is = tt
  acting_reached s f h false (Err Memory) stands counts is = tt
  acting_reached s f h true (Err Visits) stands counts is =
      let both : false ≡ true = sym (counts s f.home f.status h stands) ∙ is in cc
  acting_reached s f h false (Err Visits) stands counts is = tt
  acting_reached s f h true (Err (Pattern text)) stands counts is = inl (counts s f.home f.status h stands)
  acting_reached s f h false (Err (Pattern text)) stands counts is = inl (counts s f.home f.status h stands)

  pub reached_acting : (result : Result (Unit {0}) Stop) → (guard ≡ No → ⊥) → IsTrue (is_acting p.type) → Counts policy p guard st st' a a' (found_by kept result) →
      Reaches policy false p guard kept st st' a a' (result_as true result)
  reached_acting result set acting counts = λ s f h stands raises.
      subst (ReachedTo policy false s f h guard kept st' a' (result_as true result))
      (sym (set_next s f p guard h set ∙ kept_acting s f p p.type guard h acting))
      (acting_reached s f h (nat_le ((resolution_at s f.home p h).visits + visits_in h) most_visits) result stands counts refl)
