-- What a call is to do: its steps, each with the entries that it adds to a site's log and the lines that it puts, and the
-- status that it ends with. The log and the text of a call are those of its steps, one after another.
use Rattle.std.specs.Prelude.{ℕ, ◌≡◌, List, [], ◌∷◌, flat_map}
use Rattle.cfa_base.specs.Causes.{Rose}
use Rattle.cfa_base.specs.Shown.{Shown, Follows}
use Rattle.cfa_outside.specs.declared.sites.Entry.{Entry}
use Rattle.cfa_outside.specs.Sites.{Told, adds}
use Rattle.cfa_outside.specs.Sinks.{adds_bytes}
use Rattle.cfa_output.specs.Puts.{PutsShort}
use Rattle.cfa_main.specs.declared.ends.End.{End}
use Rattle.cfa_main.specs.declared.ends.End.TheVariants.{Ended, PromiseFailed, InConflict}

pub record Step : Type 0 where
  pub entries : List Entry
  pub lines : List ℕ

pub record Done : Type 0 where
  pub steps : List Step
  pub status : ℕ

abbrev pub all_entries : List Step → List Entry
all_entries steps = flat_map (λ (step : Step). step.entries) steps

abbrev pub all_lines : List Step → List ℕ
all_lines steps = flat_map (λ (step : Step). step.lines) steps

-- the work came to its end, or it did so with a promise that failed, or the policy was found to be in conflict, or edits of it to clash
abbrev pub status_of : End → ℕ
status_of Ended = 0
status_of PromiseFailed = 2
status_of InConflict = 3

-- lines are put, and nothing else is done
abbrev pub puts : List ℕ → Step
puts lines = record { entries = []; lines = lines }

-- a refusal puts one line
abbrev pub refused_with : List ℕ → Done
refused_with line = record { steps = puts line ∷ []; status = 1 }

abbrev pub ends_with : End → List Step → Done
ends_with end steps = record { steps = steps; status = status_of end }

-- ---- that it was done

-- a call on the object failed, or its count of faults stands at its end
abbrev pub HasFault : {T : Type 0} → (before after : Shown T) → Type 0
HasFault before after = Rose before.faults after.faults

-- a first part of a text of which this holds was put, which isn't all, and then a put failed; behind it nothing was put
abbrev pub FallsShort : (IsText : List ℕ → Type 0) → (out out' : Shown (List ℕ)) → Type 0
FallsShort IsText out out' = (text : List ℕ) × IsText text × PutsShort text out out'

-- what the site tells, the sink and the status are those of what was to be done, and no put failed
pub record IsDone (done : Done) (before after : Told) (out out' : Shown (List ℕ)) (status : ℕ) : Type 0 where
  pub logged : after ≡ adds (all_entries done.steps) before
  pub put : Follows (adds_bytes (all_lines done.steps)) out out'
  pub status_is : status ≡ done.status

-- the same of what has nothing to do with a site
pub record IsPut (done : Done) (out out' : Shown (List ℕ)) (status : ℕ) : Type 0 where
  pub no_entry : all_entries done.steps ≡ []
  pub put : Follows (adds_bytes (all_lines done.steps)) out out'
  pub status_is : status ≡ done.status

-- something of what may be done was done
abbrev pub Stands :
    (May : Done → Type 0) → (before after : Told) → (out out' : Shown (List ℕ)) → (status : ℕ) → Type 0
Stands May before after out out' status =
    (done : Done) × May done × IsDone done before after out out' status

abbrev pub Puts : (May : Done → Type 0) → (out out' : Shown (List ℕ)) → (status : ℕ) → Type 0
Puts May out out' status = (done : Done) × May done × IsPut done out out' status
