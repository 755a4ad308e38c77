-- The walks of a policy, by what is kept of them.
use Rattle.std.proofs.Common.{◌≡◌, List, [], map, Some, ap, sym, subst, ◌∙◌, ℕ}
use Rattle.std.specs.Prelude.{Result, Ok, Err, IfOk, IfErr}
use Rattle.cfa_base.specs.Shown.{Shown}
use Rattle.cfa_output.specs.declared.ends.Stop.{Stop}
use Rattle.cfa_output.specs.declared.ends.Stop.TheVariants.{Outside, Memory, Visits, Pattern}
use Rattle.cfa_walk.specs.declared.listing.WalkErr.{WalkErr}
use Rattle.cfa_walk.specs.declared.listing.WalkErr.TheVariants.{NoMemory}
use Rattle.cfa_walk.specs.Ended.{refusal_of}
use Rattle.cfa_resolve.specs.declared.instances.Instance.{Instance}
use Rattle.cfa_walk.specs.declared.listing.Telling.{Telling}
use Rattle.cfa_states.specs.declared.logs.Listing.{Listing}
use Rattle.cfa_states.specs.declared.states.State.{State}
use Rattle.cfa_states.specs.declared.walks.Blame.{Blame}
use Rattle.cfa_states.specs.declared.walks.Walk.{Walk}
use Rattle.cfa_states.specs.Builds.{BuiltOn}
use Rattle.cfa_states.specs.History.{History}
use Rattle.cfa_states.specs.Kept.{KeepsLog}
use Rattle.cfa_states.specs.Levels.{IsTooLarge, PatternsAre}
use Rattle.cfa_walk.specs.Listed.{HasWalked, IsRefused, WalkPatterns}
use Rattle.cfa_states.specs.Logs.{Rows, walk_of}
use Rattle.cfa_states.specs.Passes.{run}
use Rattle.cfa_walk.specs.Tellings.{told_by}
use Rattle.cfa_states.specs.Views.{Setting}
use Rattle.cfa_walk.specs.Walked.{HasRunTo}
use Rattle.cfa_states.specs.Walks.{listed_instances, listings, visit_of, walked}
use Rattle.cfa_states.specs.lemmas.Courses.{goes_weaker}

-- ---- what a log comes to

abbrev walk_with : List Instance → List Listing → List Blame → Walk
walk_with instances listings unsettled = record { instances = instances; visits = map (visit_of instances) listings; unsettled = unsettled }

pub walk_is : (s : Setting) (rows : Rows) (h : History) → KeepsLog s (Some rows) h → walk_of rows ≡ walked s h
unfolding walked
walk_is s rows h keeps =
    ap (λ (x : List Instance). walk_with x rows.1 rows.2) keeps.0
    ∙ (ap (λ (x : List Listing). walk_with (listed_instances h) x rows.2) keeps.1.0
    ∙ ap (λ (x : List Blame). walk_with (listed_instances h) (listings s h) x) keeps.1.1)

-- what a telling stands on is nothing
abbrev pub Telled : Type 0
Telled = Telling × (Unit {0} × Unit {0})

abbrev pub agrees : Telled → Telling → Type 0
agrees w telling = w.0 ≡ telling

abbrev pub behind : Telled → Telling → History → Type 0
behind w telling h = Unit {0}

module _ {W : Type 0} (agrees : W → Telling → Type 0) (behind : W → Telling → History → Type 0) (s : Setting) (telling : Telling) (w w' : W) (x : Telling)
    (agree : agrees w' x) (same : agrees w x → x ≡ telling) (here : behind w x []) where
  pub has_walked : (st : State) (result : Result Walk WalkErr) → HasRunTo told_by agrees behind s w w' (Ok st) →
      IfOk result (λ walk. (s : Setting) (h : History) → KeepsLog s st.log h → walk ≡ walked s h) → IfOk result (HasWalked s telling)
  has_walked st (Ok walk) ran is =
      let r = ran x agree in
      subst (λ (t : Telling). HasWalked s t walk) (same r.0)
      (goes_weaker (run s (told_by x)) _ _ (λ k p. is s k p.0.1.1.1.1.1.1) (r.1 here))
  has_walked st (Err refusal) ran is = tt

  pub refused_by : (stop : Stop) → HasRunTo told_by agrees behind s w w' (Err stop) → IsRefused s telling (refusal_of stop)
  refused_by (Outside object) ran = tt
  refused_by Memory ran = tt
  refused_by Visits ran = subst (λ (t : Telling). IsTooLarge (run s (told_by t))) (same (ran x agree).0) ((ran x agree).1 here)
  refused_by (Pattern text) ran = subst (λ (t : Telling). BuiltOn s (run s (told_by t)) text) (same (ran x agree).0) ((ran x agree).1 here)

pub refused_patterns : (stop : Stop) (pats pats' : Shown (List (List ℕ))) → PatternsAre (Err stop) pats pats' → WalkPatterns {X = Walk} (Err (refusal_of stop)) pats pats'
refused_patterns (Outside object) pats pats' are = are
refused_patterns Memory pats pats' are = are
refused_patterns Visits pats pats' are = are
refused_patterns (Pattern text) pats pats' are = are

-- a walk that was not taken
pub not_taken : (s : Setting) (telling : Telling) (result : Result Walk WalkErr) → IfErr result (λ refusal. refusal ≡ NoMemory) → IfErr result (IsRefused s telling)
not_taken s telling (Ok walk) is = tt
not_taken s telling (Err refusal) is = subst (λ (e : WalkErr). IsRefused s telling e) (sym is) tt

pub taken_patterns : (result : Result Walk WalkErr) (pats pats' : Shown (List (List ℕ))) → IfErr result (λ refusal. refusal ≡ NoMemory) → pats' ≡ pats → WalkPatterns result pats pats'
taken_patterns (Ok walk) pats pats' is same = same
taken_patterns (Err refusal) pats pats' is same = subst (λ (e : WalkErr). WalkPatterns {X = Walk} (Err e) pats pats') (sym is) same
