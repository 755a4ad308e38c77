-- A run on one site begins with nothing behind it: what its events add is what the definition of a run says.
use Rattle.std.proofs.Common.{◌≡◌, ℕ, suc, ◌-◌, Bool, true, false, List, [], ◌∷◌, ◌++◌, length, take, refl, sym, ap, subst, ◌∙◌, arith, append-nil}
use Rattle.std.proofs.Math.Seq.{take-length}
use Rattle.cfa_outside.specs.declared.sites.Entry.{Entry}
use Rattle.cfa_outside.specs.declared.worlds.World.{World}
use Rattle.cfa_outside.specs.Sites.{after}
use Rattle.cfa_resolve.specs.declared.instances.Instance.{Instance}
use Rattle.cfa_resolve.specs.declared.instances.Work.{Work}
use Rattle.cfa_resolve.specs.declared.instances.Work.TheVariants.{Acts, Call, Report}
use Rattle.cfa_states.specs.History.{History, Event, Begun, Set, Raised, Reached, Listed, Told}
use Rattle.cfa_frames.specs.Growing.{AnswerAlike}
use Rattle.cfa_agent.specs.Locking.{lock_entries, is_skipped}
use Rattle.cfa_agent.specs.Runs.{Start, actuations_in, done_next, lines_done, lines_in, log_in, outcome_by_work, real, with_entries, work_entries, work_lines, world_in}
use Rattle.cfa_agent.specs.Stepping.{events_since, instance_added, lines_since, log_since, stepper, work_added, work_told, world_since}

module _ (s : Start) where
  work_alone : (log : List Entry) (number : ℕ) (instance : Instance) (work : Work) → work_added s [] false log number instance work ≡ work_entries s log number instance work
  work_alone log number instance (Acts acts) = refl
  work_alone log number instance (Call name arguments) = refl
  work_alone log number instance (Report content) = refl

  instance_alone : (log log' : List Entry) (h h' : History) (instance : Instance) → log ≡ log' → h ≡ h' →
      log ++ instance_added s [] false log (suc (actuations_in h)) instance ≡ with_entries s log' (suc (actuations_in h')) instance
  instance_alone log log' h h' instance same same_history =
      ap (λ (entries : List Entry). log ++ (entries ++ lock_entries s.moment s.has_locks instance)) (work_alone log (suc (actuations_in h)) instance instance.work)
      ∙ ap (λ (log : List Entry). with_entries s log (suc (actuations_in h)) instance) same
      ∙ ap (λ (h : History). with_entries s log' (suc (actuations_in h)) instance) same_history

  pub log_alone : (h : History) → log_since s [] false h ≡ log_in s h
  log_alone [] = refl
  log_alone (Told instance [] ∷ h) = log_alone h
  log_alone (Told instance (outcome ∷ others) ∷ h) = instance_alone (log_since s [] false h) (log_in s h) (h ++ []) h instance (log_alone h) (append-nil h)
  log_alone (Begun p arguments ∷ h) = log_alone h
  log_alone (Set p name datum ∷ h) = log_alone h
  log_alone (Raised place class status source ∷ h) = log_alone h
  log_alone (Reached home promise guard sets visits ∷ h) = log_alone h
  log_alone (Listed instance status ∷ h) = log_alone h

  world_alone : (h : History) → world_since s [] false h ≡ world_in s h
  world_alone h = ap (λ (log : List Entry). after log s.world) (log_alone h)

  told_alone : (h : History) (instance : Instance) (work : Work) → work_told s [] false h instance work ≡ work_lines s h instance work
  told_alone h instance (Acts acts) =
      ap (λ (world : World). lines_done s instance (done_next s world (h ++ []) instance) (done_next s world (h ++ []) instance).failure (done_next s world (h ++ []) instance).changes) (world_alone h)
      ∙ ap (λ (k : History). lines_done s instance (done_next s (world_in s h) k instance) (done_next s (world_in s h) k instance).failure (done_next s (world_in s h) k instance).changes) (append-nil h)
  told_alone h instance (Call name arguments) = refl
  told_alone h instance (Report content) = refl

  pub lines_alone : (h : History) → lines_since s [] false h ≡ lines_in s h
  lines_alone [] = refl
  lines_alone (Told instance [] ∷ h) = lines_alone h
  lines_alone (Told instance (outcome ∷ others) ∷ h) =
      ap (λ (lines : List (List ℕ)). lines ++ work_told s [] false h instance instance.work) (lines_alone h)
      ∙ ap (λ (told : List (List ℕ)). lines_in s h ++ told) (told_alone h instance instance.work)
  lines_alone (Begun p arguments ∷ h) = lines_alone h
  lines_alone (Set p name datum ∷ h) = lines_alone h
  lines_alone (Raised place class status source ∷ h) = lines_alone h
  lines_alone (Reached home promise guard sets visits ∷ h) = lines_alone h
  lines_alone (Listed instance status ∷ h) = lines_alone h

  all_since : (h : History) → events_since [] h ≡ h
  all_since h = let whole : length h - 0 ≡ length h = omega arith in ap (λ n. take n h) whole ∙ take-length h

  -- so its steps are told as the run is
  pub steps_alike : AnswerAlike [] (stepper s [] false) (real s)
  steps_alike h instance grows =
      let same : world_since s [] false (events_since [] h) ≡ world_in s h = ap (world_since s [] false) (all_since h) ∙ world_alone h in (
        ap (λ (world : World). is_skipped s.moment s.has_locks world instance) same,
        ap (λ (world : World). outcome_by_work s world h instance instance.work ∷ []) same,
      )
