-- Walks of edit bundles, one step more.
use Rattle.std.proofs.Common.{◌≡◌, ◌≤◌, ◌<◌, ◌+◌, ◌∙◌, ℕ, List, [], ◌∷◌, ◌++◌, length, get_or, map, drop, Option, Some, None, ap, sym, subst, refl, arith, inl, inr}
use Rattle.std.proofs.lemmas.List.{drop_more}
use Rattle.cfa_base.specs.Patterns.{SizeRefusal, refuses}
use Rattle.cfa_base.specs.Shown.{Shown, HasFailed}
use Rattle.cfa_statuses.specs.declared.levels.Status.{Status}
use Rattle.cfa_statuses.specs.declared.levels.Status.TheVariants.{No, Maybe, Yes}
use Rattle.cfa_kinds.specs.declared.kinds.PromiseType.{PromiseType}
use Rattle.cfa_kinds.specs.declared.kinds.PromiseType.TheVariants as promises
use Rattle.cfa_scripts.specs.declared.numbering.Numbered.{Numbered as Held}
use Rattle.cfa_scripts.specs.declared.walking.Walk.{Walk}
use Rattle.cfa_scripts.specs.Numbered.{Numbered}
use Rattle.cfa_scripts.specs.EditBundles.{Around, statuses_at, guard_under, kept_by, guarded, reach, walked_from, with_each, with_origin, raised_after}
use Rattle.cfa_scripts.specs.ScriptBuilds.{BuiltAt, BuiltAlong}
use Rattle.cfa_scripts.specs.Walking.{seen_numbered}
use Rattle.cfa_vars.specs.declared.scoping.Datum.{Datum}
use Rattle.cfa_vars.specs.Named.{put}
use Rattle.cfa_vars.specs.Scopes.{Table}
use Rattle.cfa_statuses.specs.Raised.{raised}
use Rattle.cfa_scripts.specs.declared.raising.HandedRaise.{HandedRaise}
use Rattle.cfa_scripts.specs.declared.walking.Inside.{Inside}

pub with_each_push : (table : Table) (name : List ℕ) (values : List Datum) (more : Datum) → with_each table name (values ++ more ∷ []) ≡ put (with_each table name values) name more
with_each_push table name [] more = refl
with_each_push table name (v ∷ values) more = with_each_push (put table name v) name values more

pub raised_after_push : (inside : Inside) (raises : List HandedRaise) (more : HandedRaise) → raised_after inside (raises ++ more ∷ []) ≡ raised_after (raised_after inside raises) (more ∷ [])
raised_after_push inside [] more = refl
raised_after_push inside (r ∷ raises) more = raised_after_push (record inside { raised = raised inside.raised r.class r.to; origins = with_origin inside.origins r.class r.origin }) raises more

-- ---- visits never fall

module _ (around : Around) (w : Walk) (p : Numbered) where
  kept_visits : (guard : Status) (type : PromiseType) → w.visits ≤ (kept_by around w p guard type).visits
  kept_visits guard promises.Vars = omega arith
  kept_visits guard promises.Classes = omega arith
  kept_visits guard promises.Files = omega arith
  kept_visits guard promises.Methods = omega arith
  kept_visits guard promises.Services = omega arith
  kept_visits guard promises.Reports = omega arith
  kept_visits guard promises.DeleteLines = omega arith
  kept_visits guard promises.FieldEdits = omega arith
  kept_visits guard promises.InsertLines = omega arith
  kept_visits guard promises.ReplacePatterns = omega arith

  guarded_visits : (guard : Status) → w.visits ≤ (guarded around w p guard).visits
  guarded_visits No = omega arith
  guarded_visits Maybe = kept_visits Maybe p.type
  guarded_visits Yes = kept_visits Yes p.type

  reach_visits : w.visits ≤ (reach around w p).visits
  unfolding reach
  reach_visits = guarded_visits (guard_under (statuses_at around w.inside) p.promise.guard)

pub walked_visits : (around : Around) (w : Walk) (ps : List Numbered) → w.visits ≤ (walked_from around w ps).visits
walked_visits around w [] = omega arith
walked_visits around w (p ∷ ps) =
    let here = reach_visits around w p in
    let later = walked_visits around (reach around w p) ps in
    omega (arith, here, later)

-- ---- one promise more

module _ (around : Around) (promises : List Held) (i : ℕ) (p : Held) (below : i < length promises) (is : p ≡ get_or promises i p) where
  left_now : map seen_numbered (drop i promises) ≡ seen_numbered p ∷ map seen_numbered (drop (i + 1) promises)
  left_now = ap (map seen_numbered) (drop_more promises i p below) ∙ ap (λ (x : Held). seen_numbered x ∷ map seen_numbered (drop (i + 1) promises)) (sym is)

  pub walked_more : (w : Walk) → walked_from around w (map seen_numbered (drop i promises)) ≡ walked_from around (reach around w (seen_numbered p)) (map seen_numbered (drop (i + 1) promises))
  walked_more w = ap (walked_from around w) left_now

  pub built_here : (w : Walk) (content : List ℕ) → BuiltAt around w.inside (seen_numbered p) content → BuiltAlong around w (map seen_numbered (drop i promises)) content
  built_here w content h = subst (λ (ps : List Numbered). BuiltAlong around w ps content) (sym left_now) (inl h)

  pub built_later : (w : Walk) (content : List ℕ) → BuiltAlong around (reach around w (seen_numbered p)) (map seen_numbered (drop (i + 1) promises)) content → BuiltAlong around w (map seen_numbered (drop i promises)) content
  built_later w content h = subst (λ (ps : List Numbered). BuiltAlong around w ps content) (sym left_now) (inr h)

  -- where too many visits are counted here, they are in all
  pub too_large_here : (left : ℕ) (w : Walk) → left < (reach around w (seen_numbered p)).visits → left < (walked_from around w (map seen_numbered (drop i promises))).visits
  too_large_here left w h =
      let later = walked_visits around (reach around w (seen_numbered p)) (map seen_numbered (drop (i + 1) promises)) in
      subst (λ (v : Walk). left < v.visits) (sym (walked_more w)) (omega (arith, later))

-- a text that is refused in a part is refused in the whole
pub refused_within : {Part Whole : List ℕ → Type 0} (refused : Option (List ℕ)) (before here after : Shown (List (List ℕ))) → here ≡ before → ((content : List ℕ) → Part content → Whole content) → SizeRefusal Part refused here after → SizeRefusal Whole refused before after
refused_within None before here after same within h = h ∙ same
refused_within (Some content) before here after same within h = (
  within content h.0,
  subst (λ (shown : Shown (List (List ℕ))). HasFailed (refuses content) shown after) same h.1,
)
