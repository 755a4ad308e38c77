-- What is left of a guard at a state of the machine: `GuardRest limit state tokens tree rest` says that with these tokens,
-- up to rest, the guard becomes this tree. It is kept one token earlier, and some tokens lead each state to an end.
use Rattle.std.proofs.Common.{◌≡◌, ℕ, Bool, true, false, List, [], ◌∷◌, ◌++◌, Option, Some, None, refl, ap, ◌∙◌, sym, subst, append-nil}
use Rattle.cfa_base.specs.declared.places.Place.{Place}
use Rattle.cfa_base.specs.declared.tokens.Kind.{Kind}
use Rattle.cfa_base.specs.declared.tokens.Kind.TheVariants.{Word, CloseParen, OpenParen, Bang, Dot, And, Or}
use Rattle.cfa_base.specs.Tokens.{Token}
use Rattle.cfa_tree.specs.Tree.{ExprTree, class}
use Rattle.cfa_tree.specs.Grammar.{token, Levels, IsAnd, dot, ampersand, conj_of, guard_of, Atom, not_atom, in_parentheses, class_name, Atoms, no_atom, next_atom, conj, Conjs, no_conj, next_conj, Guard, guard}
use Rattle.cfa_tree.specs.Room.{left_of, has_room, only_if}
use Rattle.cfa_tree.specs.Guards.{GuardLevel, GuardState, wants_atom, has_atom, GuardProgress, goes_on, ended, empty_level, guard_start, more_levels, level_count, negated_by, level_tree, with_negation, after_and, after_or, going_on, guard_step}
use Rattle.cfa_tree.specs.lemmas.Lists.{append_one, negated_by-negated}
use Rattle.cfa_tree.specs.lemmas.Levels.{room_opens, left_of-none}

-- the rest of a level that has these conjs and atoms
pub data LevelRest : Levels → (conjs atoms : List ExprTree) → List Token → ExprTree → List Token → Type 0 where
  level_rest : {levels : Levels} {cs es atoms conjs : List ExprTree} {us vs rest : List Token} →
      Atoms levels us atoms vs → Conjs levels vs conjs rest → LevelRest levels cs es us (guard_of (cs ++ conj_of (es ++ atoms) ∷ conjs)) rest

-- the rest behind the guard of an inner level
pub data Closes : Levels → ExprTree → List GuardLevel → List Token → ExprTree → List Token → Type 0 where
  no_level : {limit : Levels} {g : ExprTree} {rest : List Token} → Closes limit g [] rest g rest
  one_level : {limit : Levels} {g h tree : ExprTree} {m : GuardLevel} {ms : List GuardLevel} {y : List ℕ} {q : Place} {vs ws rest : List Token} →
      LevelRest (left_of limit (level_count ms)) m.conjs (m.atoms ++ negated_by m.negations g ∷ []) vs h ws → Closes limit h ms ws tree rest →
      Closes limit g (m ∷ ms) (token CloseParen y q ∷ vs) tree rest

pub data HasRest : Levels → (conjs atoms : List ExprTree) → List GuardLevel → List Token → ExprTree → List Token → Type 0 where
  has_rest : {limit : Levels} {cs es : List ExprTree} {outer : List GuardLevel} {us ws rest : List Token} {h tree : ExprTree} →
      LevelRest (left_of limit (level_count outer)) cs es us h ws → Closes limit h outer ws tree rest → HasRest limit cs es outer us tree rest

pub data GuardRest : Levels → GuardState → List Token → ExprTree → List Token → Type 0 where
  behind_atom : {limit : Levels} {cs es : List ExprTree} {outer : List GuardLevel} {us rest : List Token} {tree : ExprTree} →
      HasRest limit cs es outer us tree rest → GuardRest limit (has_atom cs es outer) us tree rest
  before_atom : {limit : Levels} {l : GuardLevel} {outer : List GuardLevel} {us vs rest : List Token} {a tree : ExprTree} →
      Atom (left_of limit (more_levels l.negations (level_count outer))) us a vs → HasRest limit l.conjs (l.atoms ++ negated_by l.negations a ∷ []) outer vs tree rest →
      GuardRest limit (wants_atom l outer) us tree rest

level_done : (levels : Levels) (cs es : List ExprTree) (rest : List Token) → LevelRest levels cs es rest (level_tree cs es) rest
level_done levels cs es rest =
    subst (λ z. LevelRest levels cs es rest (guard_of (cs ++ conj_of z ∷ [])) rest) (append-nil es) (level_rest no_atom no_conj)

has_rest_of : {limit : Levels} {cs es : List ExprTree} {outer : List GuardLevel} {us rest : List Token} {tree : ExprTree} →
    GuardRest limit (has_atom cs es outer) us tree rest → HasRest limit cs es outer us tree rest
has_rest_of (behind_atom r) = r

-- a guard in parentheses is an atom of the level around
parenthesis_rest : {limit : Levels} {l : GuardLevel} {outer : List GuardLevel} {a tree : ExprTree} {us vs rest : List Token} (x : List ℕ) (p : Place) →
    has_room limit (more_levels l.negations (level_count outer)) ≡ true →
    Atom (left_of limit (level_count (l ∷ outer))) us a vs → HasRest limit [] (a ∷ []) (l ∷ outer) vs tree rest → GuardRest limit (wants_atom l outer) (token OpenParen x p ∷ us) tree rest
parenthesis_rest {limit = limit} {l = l} {outer = outer} x p room a (has_rest (level_rest atoms conjs) (one_level level closes)) =
    before_atom (in_parentheses (room_opens limit (more_levels l.negations (level_count outer)) room) (guard (conj a atoms) conjs)) (has_rest level closes)

and_rest : {limit : Levels} {cs es : List ExprTree} {outer : List GuardLevel} {us rest : List Token} {tree : ExprTree} (k : Kind) (x : List ℕ) (p : Place) → IsAnd k →
    GuardRest limit (after_and cs es outer) us tree rest → GuardRest limit (has_atom cs es outer) (token k x p ∷ us) tree rest
and_rest {limit = limit} {cs = cs} {es = es} {outer = outer} {us = us} k x p is (before_atom {a = a} atom (has_rest {ws = ws} (level_rest {atoms = atoms} {conjs = conjs} more_atoms more_conjs) closes)) =
    behind_atom (has_rest (subst (λ z. LevelRest (left_of limit (level_count outer)) cs es (token k x p ∷ us) (guard_of (cs ++ conj_of z ∷ conjs)) ws) (sym (append_one es a atoms))
    (level_rest (next_atom is atom more_atoms) more_conjs)) closes)

or_rest : {limit : Levels} {cs es : List ExprTree} {outer : List GuardLevel} {us rest : List Token} {tree : ExprTree} (x : List ℕ) (p : Place) →
    GuardRest limit (after_or cs es outer) us tree rest → GuardRest limit (has_atom cs es outer) (token Or x p ∷ us) tree rest
or_rest {limit = limit} {cs = cs} {es = es} {outer = outer} {us = us} x p (before_atom {a = a} atom (has_rest {ws = ws} (level_rest {atoms = atoms} {conjs = conjs} more_atoms more_conjs) closes)) =
    let c : ExprTree = conj_of (a ∷ atoms) in
    let levels = left_of limit (level_count outer) in
    let rest : LevelRest levels cs es (token Or x p ∷ us) (guard_of (cs ++ conj_of (es ++ []) ∷ c ∷ conjs)) ws = level_rest no_atom (next_conj (conj atom more_atoms) more_conjs) in
    let same : cs ++ conj_of (es ++ []) ∷ c ∷ conjs ≡ (cs ++ conj_of es ∷ []) ++ c ∷ conjs =
    ap (λ z. cs ++ conj_of z ∷ c ∷ conjs) (append-nil es) ∙ sym (append_one cs (conj_of es) (c ∷ conjs)) in
    behind_atom (has_rest (subst (λ z. LevelRest levels cs es (token Or x p ∷ us) (guard_of z) ws) same rest) closes)

negation_rest : {limit : Levels} {l : GuardLevel} {outer : List GuardLevel} {us rest : List Token} {tree : ExprTree} (x : List ℕ) (p : Place) →
    has_room limit (more_levels l.negations (level_count outer)) ≡ true →
    GuardRest limit (wants_atom (with_negation l) outer) us tree rest → GuardRest limit (wants_atom l outer) (token Bang x p ∷ us) tree rest
negation_rest {limit = limit} {l = l} {outer = outer} {rest = rest} {tree = tree} x p room (before_atom {vs = vs} {a = a} atom r) =
    before_atom (not_atom (room_opens limit (more_levels l.negations (level_count outer)) room) atom)
    (subst (λ z. HasRest limit l.conjs (l.atoms ++ z ∷ []) outer vs tree rest) (negated_by-negated l.negations a) r)

inner_rest : {limit : Levels} {l : GuardLevel} {outer : List GuardLevel} {us rest : List Token} {tree : ExprTree} (x : List ℕ) (p : Place) →
    has_room limit (more_levels l.negations (level_count outer)) ≡ true →
    GuardRest limit (wants_atom empty_level (l ∷ outer)) us tree rest → GuardRest limit (wants_atom l outer) (token OpenParen x p ∷ us) tree rest
inner_rest x p room (before_atom atom r) = parenthesis_rest x p room atom r

closed_rest : {limit : Levels} {cs es : List ExprTree} {l : GuardLevel} {outer : List GuardLevel} {us rest : List Token} {tree : ExprTree} (x : List ℕ) (p : Place) →
    HasRest limit l.conjs (l.atoms ++ negated_by l.negations (level_tree cs es) ∷ []) outer us tree rest → GuardRest limit (has_atom cs es (l ∷ outer)) (token CloseParen x p ∷ us) tree rest
closed_rest {limit = limit} {cs = cs} {es = es} {l = l} {outer = outer} {us = us} x p (has_rest level closes) =
    behind_atom (has_rest (level_done (left_of limit (level_count (l ∷ outer))) cs es (token CloseParen x p ∷ us)) (one_level level closes))

-- one token earlier
abbrev pub GuardEarlier : Levels → GuardState → Token → Option GuardProgress → Type 0
GuardEarlier limit s t None = Unit {0}
GuardEarlier limit s t (Some (goes_on next)) = (us rest : List Token) (tree : ExprTree) → GuardRest limit next us tree rest → GuardRest limit s (t ∷ us) tree rest
GuardEarlier limit s t (Some (ended e)) = (rest : List Token) → GuardRest limit s rest e rest

if_room : {limit : Levels} {s : GuardState} {t : Token} (allowed : Bool) (next : GuardState) →
    (allowed ≡ true → (us rest : List Token) (tree : ExprTree) → GuardRest limit next us tree rest → GuardRest limit s (t ∷ us) tree rest) →
    GuardEarlier limit s t (going_on (only_if allowed next))
if_room true next h = h refl
if_room false next h = tt

pub whole_rest : (limit : Levels) (cs es : List ExprTree) (rest : List Token) → GuardRest limit (has_atom cs es []) rest (level_tree cs es) rest
whole_rest limit cs es rest = behind_atom (has_rest (level_done (left_of limit 0) cs es rest) no_level)

pub guard_earlier : (limit : Levels) (s : GuardState) (k : Kind) (x : List ℕ) (p : Place) → GuardEarlier limit s (token k x p) (guard_step limit s k x)
guard_earlier limit (wants_atom l outer) Word x p = λ us rest tree r. before_atom class_name (has_rest_of r)
guard_earlier limit (wants_atom l outer) Bang x p =
    if_room (has_room limit (more_levels l.negations (level_count outer))) (wants_atom (with_negation l) outer) (λ room us rest tree r. negation_rest x p room r)
guard_earlier limit (wants_atom l outer) OpenParen x p =
    if_room (has_room limit (more_levels l.negations (level_count outer))) (wants_atom empty_level (l ∷ outer)) (λ room us rest tree r. inner_rest x p room r)
guard_earlier limit (wants_atom l outer) _ x p = tt
guard_earlier limit (has_atom cs es outer) Dot x p = λ us rest tree r. and_rest Dot x p dot r
guard_earlier limit (has_atom cs es outer) And x p = λ us rest tree r. and_rest And x p ampersand r
guard_earlier limit (has_atom cs es outer) Or x p = λ us rest tree r. or_rest x p r
guard_earlier limit (has_atom cs es (l ∷ outer)) CloseParen x p = λ us rest tree r. closed_rest x p (has_rest_of r)
guard_earlier limit (has_atom cs es (l ∷ outer)) _ x p = tt
guard_earlier limit (has_atom cs es []) _ x p = λ rest. whole_rest limit cs es rest

-- from each state some tokens lead to the end of a guard
abbrev pub somewhere : Place
somewhere = record { file = 0; line = 1; col = 1 }

closes_alive : (limit : Levels) (g : ExprTree) (ms : List GuardLevel) (rest : List Token) → (us : List Token) × (tree : ExprTree) × Closes limit g ms us tree rest
closes_alive limit g [] rest = (rest, g, no_level)
closes_alive limit g (m ∷ ms) rest =
    let es = m.atoms ++ negated_by m.negations g ∷ [] in
    let later = closes_alive limit (level_tree m.conjs es) ms rest in
    (token CloseParen [] somewhere ∷ later.0, later.1, one_level (level_done (left_of limit (level_count ms)) m.conjs es later.0) later.2)

has_alive : (limit : Levels) (cs es : List ExprTree) (outer : List GuardLevel) (rest : List Token) → (us : List Token) × (tree : ExprTree) × HasRest limit cs es outer us tree rest
has_alive limit cs es outer rest =
    let later = closes_alive limit (level_tree cs es) outer rest in
    (later.0, later.1, has_rest (level_done (left_of limit (level_count outer)) cs es later.0) later.2)

pub guard_alive : (limit : Levels) (s : GuardState) (rest : List Token) → (us : List Token) × (tree : ExprTree) × GuardRest limit s us tree rest
guard_alive limit (has_atom cs es outer) rest =
    let later = has_alive limit cs es outer rest in
    (later.0, later.1, behind_atom later.2)
guard_alive limit (wants_atom l outer) rest =
    let later = has_alive limit l.conjs (l.atoms ++ negated_by l.negations (class []) ∷ []) outer rest in
    (token Word [] somewhere ∷ later.0, later.1, before_atom class_name later.2)

guard_of_rest : {limit : Levels} {us rest : List Token} {tree : ExprTree} → GuardRest limit guard_start us tree rest → Guard (left_of limit 0) us tree rest
guard_of_rest (before_atom atom (has_rest (level_rest atoms conjs) no_level)) = guard (conj atom atoms) conjs

-- at the start the rest is a guard
pub guard_starts : (limit : Levels) {us rest : List Token} {tree : ExprTree} → GuardRest limit guard_start us tree rest → Guard limit us tree rest
guard_starts limit {us} {rest} {tree} r = subst (λ levels. Guard levels us tree rest) (sym (left_of-none limit)) (guard_of_rest r)
