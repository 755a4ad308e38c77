-- The verdict by the first conflict, and the first conflict by live instances.
use Rattle.std.proofs.Common.{◌≡◌, ℕ, ◌+◌, ◌<◌, true, false, cond, List, [], ◌∷◌, ◌++◌, length, get_or, drop, map, Some, None, refl, sym, ap, ◌∙◌}
use Rattle.std.specs.Prelude.{slice_get}
use Rattle.cfa_resolve.specs.declared.instances.Instance.{Instance}
use Rattle.cfa_states.specs.declared.walks.Blame.{Blame}
use Rattle.cfa_states.specs.declared.walks.Visit.{Visit}
use Rattle.cfa_states.specs.declared.walks.Walk.{Walk}
use Rattle.cfa_conflict.specs.declared.verdicts.Conflict.{Conflict}
use Rattle.cfa_conflict.specs.declared.verdicts.Verdict.TheVariants as verdict
use Rattle.cfa_conflict.specs.Conflicts.{unsettled_conflict, restarts_of, first_visit, unsure_at, undone_from, is_live, conflicts_at, conflicts_from, conflicts, live_instances, first_or_accepted, verdict_of}
use Rattle.cfa_conflict.specs.Targets.{first_of}
use Rattle.cfa_conflict.proofs.FirstLemmas.{behind_none, found_before, conflicts_here}

-- ---- the verdict

first_told : (blames : List Blame) (more : List Conflict) (live : ℕ) (blame : Blame) → slice_get blames 0 ≡ Some blame
    → first_or_accepted (map unsettled_conflict blames ++ more) live ≡ verdict.Conflict (unsettled_conflict blame)
first_told [] more live blame is = cc
first_told (b ∷ blames) more live blame is = let same : b ≡ blame = cc in ap (λ x. verdict.Conflict (unsettled_conflict x)) same

none_told : (blames : List Blame) (more : List Conflict) (live : ℕ) → slice_get blames 0 ≡ None
    → first_or_accepted (map unsettled_conflict blames ++ more) live ≡ first_or_accepted more live
none_told [] more live is = refl
none_told (b ∷ blames) more live is = cc

by_first : (found : List Conflict) (live : ℕ) (conflict : Conflict) → first_of found ≡ Some conflict → first_or_accepted found live ≡ verdict.Conflict conflict
by_first [] live conflict is = cc
by_first (c ∷ found) live conflict is = let same : c ≡ conflict = cc in ap verdict.Conflict same

by_none : (found : List Conflict) (live : ℕ) → first_of found ≡ None → first_or_accepted found live ≡ verdict.Accepted live
by_none [] live is = refl
by_none (c ∷ found) live is = cc

pub verdict_unsettled : (kept walk : Walk) (blame : Blame) → slice_get walk.unsettled 0 ≡ Some blame → verdict_of kept walk ≡ verdict.Conflict (unsettled_conflict blame)
unfolding verdict_of conflicts
verdict_unsettled kept walk blame is = first_told walk.unsettled (conflicts_from kept walk walk.instances 0) (live_instances kept) blame is

pub verdict_found : (kept walk : Walk) (conflict : Conflict) → slice_get walk.unsettled 0 ≡ None
    → first_of (conflicts_from kept walk walk.instances 0) ≡ Some conflict → verdict_of kept walk ≡ verdict.Conflict conflict
unfolding verdict_of conflicts
verdict_found kept walk conflict none is =
    none_told walk.unsettled (conflicts_from kept walk walk.instances 0) (live_instances kept) none
    ∙ by_first (conflicts_from kept walk walk.instances 0) (live_instances kept) conflict is

pub verdict_accepted : (kept walk : Walk) → slice_get walk.unsettled 0 ≡ None
    → first_of (conflicts_from kept walk walk.instances 0) ≡ None → verdict_of kept walk ≡ verdict.Accepted (live_instances kept)
unfolding verdict_of conflicts
verdict_accepted kept walk none is =
    none_told walk.unsettled (conflicts_from kept walk walk.instances 0) (live_instances kept) none
    ∙ by_none (conflicts_from kept walk walk.instances 0) (live_instances kept) is

-- ---- live instances

pub at_walk : (walk : Walk) (visits : List Visit) (instances : List Instance) (instance : Instance) (place : ℕ) → visits ≡ walk.visits → instances ≡ walk.instances
    → restarts_of instance ++ (unsure_at instance (first_visit visits place) ++ undone_from visits instance place instances 0) ≡ conflicts_at walk instance place
at_walk walk visits instances instance place same alike =
    ap (λ (v : List Visit). restarts_of instance ++ (unsure_at instance (first_visit v place) ++ undone_from v instance place instances 0)) same
    ∙ ap (λ (l : List Instance). restarts_of instance ++ (unsure_at instance (first_visit walk.visits place) ++ undone_from walk.visits instance place l 0)) alike

module _ (kept walk : Walk) (instances : List Instance) (i : ℕ) (x : Instance) (lt : i < length instances) (is : x ≡ get_or instances i x) where
  here : conflicts_from kept walk (drop i instances) i ≡ cond (is_live kept x) (conflicts_at walk x i) [] ++ conflicts_from kept walk (drop (i + 1) instances) (i + 1)
  here =
      conflicts_here kept walk instances i x lt
      ∙ ap (λ (y : Instance). cond (is_live kept y) (conflicts_at walk y i) [] ++ conflicts_from kept walk (drop (i + 1) instances) (i + 1)) (sym is)

  pub passed_over : is_live kept x ≡ false
      → first_of (conflicts_from kept walk (drop i instances) i) ≡ first_of (conflicts_from kept walk (drop (i + 1) instances) (i + 1))
  passed_over dead =
      ap first_of here
      ∙ ap (λ b. first_of (cond b (conflicts_at walk x i) [] ++ conflicts_from kept walk (drop (i + 1) instances) (i + 1))) dead

  live_here : is_live kept x ≡ true
      → first_of (conflicts_from kept walk (drop i instances) i) ≡ first_of (conflicts_at walk x i ++ conflicts_from kept walk (drop (i + 1) instances) (i + 1))
  live_here lives =
      ap first_of here
      ∙ ap (λ b. first_of (cond b (conflicts_at walk x i) [] ++ conflicts_from kept walk (drop (i + 1) instances) (i + 1))) lives

  pub none_at : is_live kept x ≡ true → first_of (conflicts_at walk x i) ≡ None
      → first_of (conflicts_from kept walk (drop i instances) i) ≡ first_of (conflicts_from kept walk (drop (i + 1) instances) (i + 1))
  none_at lives none = live_here lives ∙ behind_none (conflicts_at walk x i) (conflicts_from kept walk (drop (i + 1) instances) (i + 1)) none

  pub found_at : (conflict : Conflict) → is_live kept x ≡ true → first_of (conflicts_at walk x i) ≡ Some conflict
      → first_of (conflicts_from kept walk (drop i instances) i) ≡ Some conflict
  found_at conflict lives some = live_here lives ∙ found_before (conflicts_at walk x i) (conflicts_from kept walk (drop (i + 1) instances) (i + 1)) conflict some
