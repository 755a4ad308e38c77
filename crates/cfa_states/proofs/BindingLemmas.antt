-- The parameters that are bound one after the other.
use Rattle.std.proofs.Common.{◌≡◌, ℕ, zero, suc, ◌+◌, ◌<◌, ◌≤◌, List, [], ◌∷◌, length, map, take, get_or, refl, sym, ap, subst, ◌∙◌, add-one, arith}
use Rattle.cfa_tree.specs.declared.blocks.Named.{Named}
use Rattle.cfa_tree.specs.Plain.{plain_named}
use Rattle.cfa_vars.specs.declared.scoping.Datum.{Datum}
use Rattle.cfa_states.specs.declared.states.State.{State}
use Rattle.cfa_states.specs.declared.activations.Activation.{Activation}
use Rattle.cfa_states.specs.History.{History, Set}
use Rattle.cfa_states.specs.Kept.{Stands, IsSame}
use Rattle.cfa_states.specs.Passes.{bind}
use Rattle.cfa_states.specs.Views.{Setting}

-- ---- parameters

bind_suc : (path : List ℕ) (params : List Named) (given : List Datum) (i : ℕ) (p : Named) (d : Datum) (h : History) → i < length params → i < length given →
    bind path (map plain_named (take (suc i) params)) given h ≡ Set path (get_or params i p).name (get_or given i d) ∷ bind path (map plain_named (take i params)) given h
bind_suc path [] given i p d h within few = absurd (omega arith)
bind_suc path (q ∷ params) [] i p d h within few = absurd (omega arith)
bind_suc path (q ∷ params) (e ∷ given) zero p d h within few = refl
bind_suc path (q ∷ params) (e ∷ given) (suc i) p d h within few = bind_suc path params given i p d (Set path q.name e ∷ h) (omega arith) (omega arith)

-- one more parameter is bound
pub bound_one_more : (s : Setting) (st' : State) (a a' b : Activation) (params : List Named) (given : List Datum) (i : ℕ) (param : Named) (name : List ℕ) (datum copy : Datum) (h : History) →
    IsSame a a' → i < length params → i < length given → param ≡ get_or params i param → datum ≡ get_or given i datum → name ≡ param.name → copy ≡ datum →
    Stands s st' b (Set a'.path name copy ∷ bind a.path (map plain_named (take i params)) given h) →
    Stands s st' b (bind a.path (map plain_named (take (i + 1) params)) given h)
bound_one_more s st' a a' b params given i param name datum copy h same within few here given_here names copies stands =
    let before : History = bind a.path (map plain_named (take i params)) given h in
    subst (λ (k : History). Stands s st' b k)
    (ap (λ (x : List ℕ). Set x name copy ∷ before) same.path
    ∙ (ap (λ (x : List ℕ). Set a.path x copy ∷ before) (names ∙ ap (λ (x : Named). x.name) here)
    ∙ (ap (λ (x : Datum). Set a.path (get_or params i param).name x ∷ before) (copies ∙ given_here)
    ∙ (sym (bind_suc a.path params given i param datum h within few)
    ∙ ap (λ (x : ℕ). bind a.path (map plain_named (take x params)) given h) (sym (add-one i)))))) stands

-- where nothing more is given, the parameters that are left stay unbound
pub bind_past : (path : List ℕ) (params : List Named) (given : List Datum) (i : ℕ) (h : History) → length given ≤ i →
    bind path (map plain_named (take i params)) given h ≡ bind path (map plain_named params) given h
bind_past path [] given zero h past = refl
bind_past path [] given (suc i) h past = refl
bind_past path (q ∷ params) [] zero h past = refl
bind_past path (q ∷ params) [] (suc i) h past = refl
bind_past path (q ∷ params) (e ∷ given) zero h past = absurd (omega arith)
bind_past path (q ∷ params) (e ∷ given) (suc i) h past = bind_past path params given i (Set path q.name e ∷ h) (omega arith)
