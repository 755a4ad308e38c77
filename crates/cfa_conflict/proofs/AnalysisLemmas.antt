-- The verdict of an analysis by what its two walks came to.
use Rattle.std.proofs.Common.{◌≡◌, Some, None, Result, Ok, Err, IsErrOf, IsErrAnd, IfErr, inl, inr, sym, ap, subst, ◌∙◌, refl}
use Rattle.cfa_walk.specs.declared.listing.Telling.TheVariants.{AllKept, Open}
use Rattle.cfa_states.specs.declared.walks.Walk.{Walk}
use Rattle.cfa_walk.specs.declared.listing.WalkErr.{WalkErr}
use Rattle.cfa_walk.specs.declared.listing.WalkErr.TheVariants.{TooLarge, PatternTooBig, NoMemory}
use Rattle.cfa_states.specs.Levels.{GoesTo, IsTooLarge}
use Rattle.cfa_walk.specs.Listed.{HasWalked, IsRefused}
use Rattle.cfa_walk.specs.declared.listing.Telling.{Telling}
use Rattle.cfa_states.specs.Passes.{Course, goes, too_large, run}
use Rattle.cfa_states.specs.Tellers.{all_kept, open_walk}
use Rattle.cfa_walk.specs.Tellings.{told_by}
use Rattle.cfa_states.specs.Views.{Setting}
use Rattle.cfa_states.specs.Walks.{walked}
use Rattle.cfa_conflict.specs.declared.verdicts.Verdict.{Verdict}
use Rattle.cfa_conflict.specs.Conflicts.{verdict_of}
use Rattle.cfa_conflict.specs.Analyses.{RefusesBuilt, verdict_over, analysis_of}

over_told : (s : Setting) (kept open_course : Course) (k w : Walk) (v : Verdict) → GoesTo kept (λ h. k ≡ walked s h) → GoesTo open_course (λ h. w ≡ walked s h) → v ≡ verdict_of k w →
    verdict_over s kept open_course ≡ Some v
over_told s (goes h) (goes i) k w v kept is_open is = sym (ap Some (is ∙ ap (λ x. verdict_of x w) kept ∙ ap (verdict_of (walked s h)) is_open))
over_told s (goes h) (too_large i) k w v kept is_open is = absurd is_open
over_told s (too_large h) c k w v kept is_open is = absurd kept

over_kept_large : (s : Setting) (kept open_course : Course) → IsTooLarge kept → verdict_over s kept open_course ≡ None
over_kept_large s (goes h) c large = absurd large
over_kept_large s (too_large h) c large = refl

over_open_large : (s : Setting) (kept open_course : Course) → IsTooLarge open_course → verdict_over s kept open_course ≡ None
over_open_large s (goes h) (goes i) large = absurd large
over_open_large s (goes h) (too_large i) large = refl
over_open_large s (too_large h) c large = refl

pub analysed : (s : Setting) (k w : Walk) (v : Verdict) → HasWalked s AllKept k → HasWalked s Open w → v ≡ verdict_of k w → analysis_of s ≡ Some v
unfolding analysis_of
analysed s k w v kept is_open is = over_told s (run s all_kept) (run s open_walk) k w v kept is_open is

pub kept_too_large : (s : Setting) → IsTooLarge (run s all_kept) → analysis_of s ≡ None
unfolding analysis_of
kept_too_large s large = over_kept_large s (run s all_kept) (run s open_walk) large

pub open_too_large : (s : Setting) → IsTooLarge (run s open_walk) → analysis_of s ≡ None
unfolding analysis_of
open_too_large s large = over_open_large s (run s all_kept) (run s open_walk) large

-- ---- errors that are handed on

abbrev err_in : Result Verdict WalkErr → WalkErr
err_in (Ok verdict) = NoMemory
err_in (Err error) = error

pub handed_on : (s : Setting) (telling : Telling) (result : Result Verdict WalkErr) (error : WalkErr) → IsErrAnd result (λ e. e ≡ error) → IsRefused s telling error → IsErrOf result TooLarge →
    IsTooLarge (run s (told_by telling))
handed_on s telling (Ok verdict) error same refused is = absurd same
handed_on s telling (Err e) error same refused is = subst (IsRefused s telling) (sym same ∙ ap err_in is) refused

built_by : (s : Setting) (telling : Telling) (error : WalkErr) → IsRefused s telling error → RefusesBuilt s error
built_by s telling TooLarge refused = tt
built_by s AllKept (PatternTooBig text) refused = inl refused
built_by s Open (PatternTooBig text) refused = inr refused
built_by s telling NoMemory refused = tt

pub handed_built : (s : Setting) (telling : Telling) (result : Result Verdict WalkErr) (error : WalkErr) → IsErrAnd result (λ e. e ≡ error) → IsRefused s telling error → IfErr result (RefusesBuilt s)
handed_built s telling (Ok verdict) error same refused = tt
handed_built s telling (Err e) error same refused = built_by s telling e (subst (IsRefused s telling) (sym same) refused)
