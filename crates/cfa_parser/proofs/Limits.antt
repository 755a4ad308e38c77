-- What the machine reads within a limit on levels, it reads the same way without one.
use Rattle.std.proofs.Common.{◌≡◌, ℕ, Bool, true, false, List, [], ◌∷◌, length, Option, Some, None, refl, sym, subst}
use Rattle.cfa_base.specs.declared.places.Place.{Place}
use Rattle.cfa_base.specs.declared.tokens.Kind.{Kind}
use Rattle.cfa_base.specs.declared.tokens.Kind.TheVariants.{Word, CloseBrace, Colon, OpenParen, Bang}
use Rattle.cfa_base.specs.Tokens.{Token}
use Rattle.cfa_tree.specs.Tree.{PolicyTree, SectionTree}
use Rattle.cfa_tree.specs.Grammar.{Levels, unlimited}
use Rattle.cfa_tree.specs.Room.{has_room, only_if}
use Rattle.cfa_tree.specs.Guards.{GuardState, wants_atom, has_atom, guard_start, guard_step, empty_level, with_negation, more_levels, level_count, going_on as guard_going_on}
use Rattle.cfa_parser.specs.Values.{ValueState, wants_value, has_word as has_value_word, has_paren, has_item, has_argument, has_value, value_step, new_call, going_on as value_going_on}
use Rattle.cfa_parser.specs.Machine.{OpenSection, SectionState, between_promises, has_word, in_guard, has_promiser, in_promisee, wants_attribute, has_name, in_value, BundleState, no_section, has_section_word, in_section, between_attributes, has_body_name, in_body_value, State, in_bundle, in_body, Machine, section_step, guard_next, guard_word, promisee_next, value_next, within, in_section_step, bundle_step, body_value_next, bundle_next, body_next, state_step, step, run}

-- the second says what the first says, if that says anything
abbrev pub Extends : {A : Type 0} → Option A → Option A → Type 0
Extends None o = Unit {0}
Extends (Some a) o = o ≡ Some a

same : {A : Type 0} (o : Option A) → Extends o o
same None = tt
same (Some a) = refl

through : {A B : Type 0} (f : Option A → Option B) (o o' : Option A) → f None ≡ None → Extends o o' → Extends (f o) (f o')
through f None o' none h = subst (λ z. Extends z (f o')) (sym none) tt
through f (Some a) o' none h = subst (λ z. Extends (f (Some a)) (f z)) (sym h) (same (f (Some a)))

if_allowed : {S : Type 0} (allowed : Bool) (s : S) → Extends (only_if allowed s) (Some s)
if_allowed true s = refl
if_allowed false s = tt

guard_extends : (limit : Levels) (g : GuardState) (k : Kind) (x : List ℕ) → Extends (guard_step limit g k x) (guard_step unlimited g k x)
guard_extends limit (wants_atom l outer) Bang x =
    let c = more_levels l.negations (level_count outer) in
    through guard_going_on (only_if (has_room limit c) (wants_atom (with_negation l) outer)) (Some (wants_atom (with_negation l) outer)) refl (if_allowed (has_room limit c) (wants_atom (with_negation l) outer))
guard_extends limit (wants_atom l outer) OpenParen x =
    let c = more_levels l.negations (level_count outer) in
    through guard_going_on (only_if (has_room limit c) (wants_atom empty_level (l ∷ outer))) (Some (wants_atom empty_level (l ∷ outer))) refl (if_allowed (has_room limit c) (wants_atom empty_level (l ∷ outer)))
guard_extends limit (wants_atom l outer) Word x = refl
guard_extends limit (wants_atom l outer) _ x = tt
guard_extends limit (has_atom cs es outer) k x = same (guard_step limit (has_atom cs es outer) k x)

value_extends : (limit : Levels) (v : ValueState) (k : Kind) (x : List ℕ) (p : Place) → Extends (value_step limit v k x p) (value_step unlimited v k x p)
value_extends limit (wants_value inside calls) k x p = same (value_step limit (wants_value inside calls) k x p)
value_extends limit (has_value_word y q inside calls) OpenParen x p =
    through value_going_on (only_if (has_room limit (length calls)) (has_paren (new_call inside y q) calls)) (Some (has_paren (new_call inside y q) calls)) refl (if_allowed (has_room limit (length calls)) (has_paren (new_call inside y q) calls))
value_extends limit (has_value_word y q inside calls) k x p = same (value_step limit (has_value_word y q inside calls) k x p)
value_extends limit (has_paren c calls) k x p = same (value_step limit (has_paren c calls) k x p)
value_extends limit (has_item l calls) k x p = same (value_step limit (has_item l calls) k x p)
value_extends limit (has_argument c calls) k x p = same (value_step limit (has_argument c calls) k x p)
value_extends limit (has_value v) k x p = refl

guard_next_extends : (limit : Levels) (s : OpenSection) (g : GuardState) (k : Kind) (x : List ℕ) → Extends (guard_next s (guard_step limit g k x) k) (guard_next s (guard_step unlimited g k x) k)
guard_next_extends limit s g k x = through (λ o. guard_next s o k) (guard_step limit g k x) (guard_step unlimited g k x) refl (guard_extends limit g k x)

section_extends : (limit : Levels) (s : OpenSection) (state : SectionState) (k : Kind) (x : List ℕ) (p : Place) → Extends (section_step limit s state k x p) (section_step unlimited s state k x p)
section_extends limit s between_promises Bang x p = guard_next_extends limit s guard_start Bang x
section_extends limit s between_promises OpenParen x p = guard_next_extends limit s guard_start OpenParen x
section_extends limit s between_promises k x p = same (section_step limit s between_promises k x p)
section_extends limit s (has_word y q) k x p = guard_next_extends limit s (guard_word y) k x
section_extends limit s (in_guard g) k x p = guard_next_extends limit s g k x
section_extends limit s (has_promiser y q) k x p = same (section_step limit s (has_promiser y q) k x p)
section_extends limit s (in_promisee y q v) k x p = through (λ o. promisee_next s y q o k x p) (value_step limit v k x p) (value_step unlimited v k x p) refl (value_extends limit v k x p)
section_extends limit s (wants_attribute o) k x p = same (section_step limit s (wants_attribute o) k x p)
section_extends limit s (has_name o y q) k x p = same (section_step limit s (has_name o y q) k x p)
section_extends limit s (in_value o y q v) k x p = through (λ z. value_next s o y q z k) (value_step limit v k x p) (value_step unlimited v k x p) refl (value_extends limit v k x p)

in_section_extends : (limit : Levels) (ss : List SectionTree) (s : OpenSection) (state : SectionState) (k : Kind) (x : List ℕ) (p : Place) →
    Extends (in_section_step limit ss s state k x p) (in_section_step unlimited ss s state k x p)
in_section_extends limit ss s between_promises CloseBrace x p = refl
in_section_extends limit ss s (has_word y q) Colon x p = refl
in_section_extends limit ss s state k x p = through (within ss) (section_step limit s state k x p) (section_step unlimited s state k x p) refl (section_extends limit s state k x p)

bundle_extends : (limit : Levels) (ss : List SectionTree) (state : BundleState) (k : Kind) (x : List ℕ) (p : Place) → Extends (bundle_step limit ss state k x p) (bundle_step unlimited ss state k x p)
bundle_extends limit ss no_section k x p = same (bundle_step limit ss no_section k x p)
bundle_extends limit ss (has_section_word y q) k x p = same (bundle_step limit ss (has_section_word y q) k x p)
bundle_extends limit ss (in_section s state) k x p = in_section_extends limit ss s state k x p

pub step_extends : (limit : Levels) (blocks : PolicyTree) (state : State) (k : Kind) (x : List ℕ) (p : Place) → Extends (state_step limit blocks state k x p) (state_step unlimited blocks state k x p)
step_extends limit blocks (in_bundle h ss state) k x p = through (bundle_next blocks h) (bundle_step limit ss state k x p) (bundle_step unlimited ss state k x p) refl (bundle_extends limit ss state k x p)
step_extends limit blocks (in_body h attrs between_attributes) k x p = same (state_step limit blocks (in_body h attrs between_attributes) k x p)
step_extends limit blocks (in_body h attrs (has_body_name y q)) k x p = same (state_step limit blocks (in_body h attrs (has_body_name y q)) k x p)
step_extends limit blocks (in_body h attrs (in_body_value y q v)) k x p =
    through (λ o. body_next blocks h (body_value_next attrs y q o k)) (value_step limit v k x p) (value_step unlimited v k x p) refl (value_extends limit v k x p)
step_extends limit blocks state k x p = same (state_step limit blocks state k x p)

pub run_none : (limit : Levels) (ts : List Token) → run limit None ts ≡ None
run_none limit [] = refl
run_none limit (t ∷ ts) = refl

run_from : (limit : Levels) (ts : List Token) (o o' : Option Machine) → Extends o o' → ((m : Machine) → Extends (run limit (Some m) ts) (run unlimited (Some m) ts)) → Extends (run limit o ts) (run unlimited o' ts)
run_from limit ts None o' h later = subst (λ z. Extends z (run unlimited o' ts)) (sym (run_none limit ts)) tt
run_from limit ts (Some m) o' h later = subst (λ z. Extends (run limit (Some m) ts) (run unlimited z ts)) (sym h) (later m)

run_extends : (limit : Levels) (ts : List Token) (m : Machine) → Extends (run limit (Some m) ts) (run unlimited (Some m) ts)
run_extends limit [] m = refl
run_extends limit (t ∷ ts) m = run_from limit ts (step limit m t) (step unlimited m t) (step_extends limit m.blocks m.state t.kind t.text t.place) (run_extends limit ts)

-- where the machine comes within the limit, it comes without one
pub run_beyond : (limit : Levels) (ts : List Token) (m next : Machine) → run limit (Some m) ts ≡ Some next → run unlimited (Some m) ts ≡ Some next
run_beyond limit ts m next is = subst (λ z. Extends z (run unlimited (Some m) ts)) is (run_extends limit ts m)
