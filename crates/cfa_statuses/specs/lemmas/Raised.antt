-- What a look-up gives after a class was raised.
use Rattle.std.proofs.Common.{◌≡◌, ◌≢◌, ℕ, List, Option, Some, Bool, true, false, cond, unwrap_or, refl, sym, ap, ◌∙◌}
use Rattle.std.proofs.lemmas.Bool.{false_from_ne_true}
use Rattle.std.proofs.lemmas.Slice.Eq.{bytes_eq-Decides}
use Rattle.std.specs.FinMap as finite
use Rattle.std.specs.Str.{bytes_eq}
use Rattle.cfa_base.specs.TextMaps.{text_cmp}
use Rattle.cfa_base.specs.lemmas.TextMaps.{get-put}
use Rattle.cfa_statuses.specs.declared.levels.Status.{Status}
use Rattle.cfa_statuses.specs.declared.levels.Status.TheVariants.{No}
use Rattle.cfa_statuses.specs.Status.{greater}
use Rattle.cfa_statuses.specs.Raised.{Raised, none_raised, status_in, raised}

pub status_in-none_raised : (name : List ℕ) → status_in none_raised name ≡ No
unfolding status_in
status_in-none_raised name = ap (λ o. unwrap_or o No) (finite.get-empty text_cmp name)

pub unwrap_or-cond : {A : Type 0} (b : Bool) (x d : A) (o : Option A) → unwrap_or (cond b (Some x) o) d ≡ cond b x (unwrap_or o d)
unwrap_or-cond true x d o = refl
unwrap_or-cond false x d o = refl

-- a class that was raised has the greater status, and any other what it had
pub status_in-raised : (statuses : Raised) (class : List ℕ) (to : Status) (name : List ℕ)
    → status_in (raised statuses class to) name ≡ cond (bytes_eq class name) (greater (status_in statuses class) to) (status_in statuses name)
unfolding status_in raised
status_in-raised statuses class to name =
    ap (λ o. unwrap_or o No) (get-put statuses class _ name) ∙ unwrap_or-cond (bytes_eq class name) _ No (finite.get statuses name)

pub status_in-raised_same : (statuses : Raised) (class : List ℕ) (to : Status) → status_in (raised statuses class to) class ≡ greater (status_in statuses class) to
status_in-raised_same statuses class to =
    status_in-raised statuses class to class
    ∙ ap (λ b. cond b (greater (status_in statuses class) to) (status_in statuses class)) ((bytes_eq-Decides class class).1 refl)

pub status_in-raised_other : (statuses : Raised) (class : List ℕ) (to : Status) (name : List ℕ) → name ≢ class → status_in (raised statuses class to) name ≡ status_in statuses name
status_in-raised_other statuses class to name apart =
    status_in-raised statuses class to name
    ∙ ap (λ b. cond b (greater (status_in statuses class) to) (status_in statuses name)) (false_from_ne_true _ (λ same. apart (sym ((bytes_eq-Decides class name).0 same))))
