-- What the grammar reads as a guard, the machine reads as that guard.
use Rattle.std.proofs.Common.{◌≡◌, ℕ, List, [], ◌∷◌, ◌++◌, Some, refl, ap, ◌∙◌, sym, append-nil}
use Rattle.cfa_base.specs.declared.places.Place.{Place}
use Rattle.cfa_base.specs.declared.tokens.Kind.{Kind}
use Rattle.cfa_base.specs.declared.tokens.Kind.TheVariants.{Word, CloseParen, OpenParen, Bang, Or}
use Rattle.cfa_base.specs.Tokens.{Token}
use Rattle.cfa_tree.specs.Tree.{ExprTree, class}
use Rattle.cfa_tree.specs.Grammar.{token, Levels, IsAnd, dot, ampersand, conj_of, guard_of, Atom, not_atom, in_parentheses, class_name, Atoms, no_atom, next_atom, Conj, conj, Conjs, no_conj, next_conj, Guard, guard}
use Rattle.cfa_tree.specs.Room.{left_of, only_if}
use Rattle.cfa_tree.specs.Guards.{GuardLevel, GuardState, wants_atom, has_atom, goes_on, empty_level, more_levels, level_count, level_tree, atom_taken, with_negation, after_and, after_or, going_on, guard_step}
use Rattle.cfa_tree.specs.lemmas.Lists.{append_one, negated_by-negated}
use Rattle.cfa_tree.specs.lemmas.Levels.{opens_room}

-- within the limit a guard's steps are steps of a reading, which makes something of a guard's state and the tokens behind
abbrev pub GuardLifts : {R : Type 0} → Levels → (GuardState → List Token → R) → Type 0
GuardLifts limit reading = (g next : GuardState) (k : Kind) (x : List ℕ) (p : Place) (ts : List Token) → guard_step limit g k x ≡ Some (goes_on next) → reading g (token k x p ∷ ts) ≡ reading next ts

abbrev with_conj : (conjs atoms : List ExprTree) → List ExprTree
with_conj cs es = cs ++ conj_of es ∷ []

module _ {R : Type 0} (limit : Levels) (reading : GuardState → List Token → R) (moved : GuardLifts limit reading) where
  abbrev and_step : {k : Kind} → IsAnd k → (cs es : List ExprTree) (outer : List GuardLevel) (x : List ℕ) → guard_step limit (has_atom cs es outer) k x ≡ Some (goes_on (after_and cs es outer))
  and_step dot cs es outer x = refl
  and_step ampersand cs es outer x = refl

  mutual
    pub atom_run : {levels : Levels} {ts rest : List Token} {e : ExprTree} → Atom levels ts e rest → (l : GuardLevel) (outer : List GuardLevel) →
        levels ≡ left_of limit (more_levels l.negations (level_count outer)) → reading (wants_atom l outer) ts ≡ reading (atom_taken l e outer) rest
    atom_run (not_atom {x = x} {p = p} {ts = ts} {rest = rest} {e = e} o a) l outer at =
        let here = opens_room limit (more_levels l.negations (level_count outer)) o at in
        moved (wants_atom l outer) (wants_atom (with_negation l) outer) Bang x p ts (ap (λ b. going_on (only_if b (wants_atom (with_negation l) outer))) here.room)
        ∙ (atom_run a (with_negation l) outer here.within
        ∙ ap (λ z. reading (has_atom l.conjs (l.atoms ++ z ∷ []) outer) rest) (negated_by-negated l.negations e))
    atom_run (in_parentheses {x = x} {y = y} {p = p} {q = q} {ts = ts} {rest = rest} {e = e} o g) l outer at =
        let here = opens_room limit (more_levels l.negations (level_count outer)) o at in
        let inner = guard_run g (l ∷ outer) here.within in
        moved (wants_atom l outer) (wants_atom empty_level (l ∷ outer)) OpenParen x p ts (ap (λ b. going_on (only_if b (wants_atom empty_level (l ∷ outer)))) here.room)
        ∙ (inner.3
        ∙ (moved (has_atom inner.0 inner.1 (l ∷ outer)) (atom_taken l (level_tree inner.0 inner.1) outer) CloseParen y q rest refl
        ∙ ap (λ z. reading (atom_taken l z outer) rest) inner.2))
    atom_run (class_name {x = x} {p = p} {rest = rest}) l outer at = moved (wants_atom l outer) (atom_taken l (class x) outer) Word x p rest refl

    pub atoms_run : {levels : Levels} {ts rest : List Token} {es : List ExprTree} → Atoms levels ts es rest → (cs ds : List ExprTree) (outer : List GuardLevel) →
        levels ≡ left_of limit (level_count outer) → reading (has_atom cs ds outer) ts ≡ reading (has_atom cs (ds ++ es) outer) rest
    atoms_run (no_atom {rest = rest}) cs ds outer at = ap (λ z. reading (has_atom cs z outer) rest) (sym (append-nil ds))
    atoms_run (next_atom {k = k} {x = x} {p = p} {ts = ts} {rest = rest} {e = e} {es = es} is a more) cs ds outer at =
        moved (has_atom cs ds outer) (after_and cs ds outer) k x p ts (and_step is cs ds outer x)
        ∙ (atom_run a (record { conjs = cs; atoms = ds; negations = 0 }) outer at
        ∙ (atoms_run more cs (ds ++ e ∷ []) outer at
        ∙ ap (λ z. reading (has_atom cs z outer) rest) (append_one ds e es)))

    pub conj_run : {levels : Levels} {ts rest : List Token} {e : ExprTree} → Conj levels ts e rest → (cs : List ExprTree) (outer : List GuardLevel) →
        levels ≡ left_of limit (level_count outer) →
        (es : List ExprTree) × (conj_of es ≡ e) × (reading (wants_atom (record { conjs = cs; atoms = []; negations = 0 }) outer) ts ≡ reading (has_atom cs es outer) rest)
    conj_run (conj {e = e} {es = es} a more) cs outer at =
        (e ∷ es, refl, atom_run a (record { conjs = cs; atoms = []; negations = 0 }) outer at ∙ atoms_run more cs (e ∷ []) outer at)

    pub conjs_run : {levels : Levels} {ts rest : List Token} {fs : List ExprTree} → Conjs levels ts fs rest → (cs es : List ExprTree) (outer : List GuardLevel) →
        levels ≡ left_of limit (level_count outer) →
        (ds : List ExprTree) × (gs : List ExprTree) × (with_conj ds gs ≡ with_conj cs es ++ fs) × (reading (has_atom cs es outer) ts ≡ reading (has_atom ds gs outer) rest)
    conjs_run no_conj cs es outer at = (cs, es, sym (append-nil (with_conj cs es)), refl)
    conjs_run (next_conj {x = x} {p = p} {ts = ts} {e = e} {es = fs} c more) cs es outer at =
        let r = conj_run c (with_conj cs es) outer at in
        let q = conjs_run more (with_conj cs es) r.0 outer at in
        (q.0, q.1, q.2 ∙ (append_one (with_conj cs es) (conj_of r.0) fs ∙ ap (λ z. with_conj cs es ++ z ∷ fs) r.1), moved (has_atom cs es outer) (after_or cs es outer) Or x p ts refl ∙ (r.2 ∙ q.3))

    pub guard_run : {levels : Levels} {ts rest : List Token} {e : ExprTree} → Guard levels ts e rest → (outer : List GuardLevel) →
        levels ≡ left_of limit (level_count outer) →
        (cs : List ExprTree) × (es : List ExprTree) × (level_tree cs es ≡ e) × (reading (wants_atom empty_level outer) ts ≡ reading (has_atom cs es outer) rest)
    guard_run (guard {e = e} {es = fs} c more) outer at =
        let r = conj_run c [] outer at in
        let q = conjs_run more [] r.0 outer at in
        (q.0, q.1, ap guard_of (q.2 ∙ ap (λ z. z ∷ fs) r.1), r.2 ∙ q.3)
