-- The first refusal of the lines of the table, with those on cycles.
use Rattle.std.proofs.Common.{ℕ, ◌≡◌, ◌∙◌, Bool, true, false, List, Option, Some, None, IfSome, IfNone, ◌⊎◌, inl, inr, ⊎_elim, IsTrue, refl, ap, sym, subst}
use Rattle.std.proofs.lemmas.Bool.{not-true}
use Rattle.std.specs.Prelude.{Result, IfErr, IsErrOf, ◌≢◌, ◌||◌, ◌&&◌, nat_lt, if◌then◌else◌}
use Rattle.std.specs.List.{Contains}
use Rattle.cfa_base.specs.declared.places.Place.{Place}
use Rattle.cfa_tree.specs.Tree.{PolicyTree}
use Rattle.cfa_values.specs.declared.refusals.Refusal.{Refusal}
use Rattle.cfa_calls.specs.Cycles.{Call, OnCycle, IsFirstOnCycle, NoneOnCycle}
use Rattle.cfa_schema.specs.declared.errors.SchemaErr.{SchemaErr}
use Rattle.cfa_schema.specs.declared.errors.SchemaErr.TheVariants.{Refused, PatternTooBig, NoMemory}
use Rattle.cfa_base.specs.Patterns.{SizeRefusal}
use Rattle.cfa_base.specs.Shown.{Shown}
use Rattle.cfa_schema.specs.Valid.{IsRefusedForSize, Applies, NoneApplies, IsFirst, FirstRefusal, no_sequence, bad_pattern, refusals, calls_of, patterns_of}
use Rattle.cfa_schema.specs.Collected.{HasRefused, IfRefused, HasFirstBad, NotesCycle, no_cycle, first_cycle}
use Rattle.cfa_base.specs.Lexing.{first_place}
use Rattle.cfa_schema.specs.Defined.{has_sequence}
use Rattle.cfa_base.specs.Order.{is_before, not_after}
use Rattle.cfa_base.specs.lemmas.Truths.{and_false}
use Rattle.cfa_values.specs.Refusals.{refusal, is_same_place, is_sooner, sooner, noted}
use Rattle.cfa_schema.proofs.LeastLemmas.{Least, least_same, least_more, least_of_list, least_wider, itself_not_sooner}
use Rattle.cfa_values.specs.declared.refusals.Code.TheVariants.{CallCycle, NoSequence}

pub first_on : (calls found : List Call) (o : Option Place) (place : Place) → IfSome o (IsFirstOnCycle found) → o ≡ Some place → found ≡ calls → IsFirstOnCycle calls place
first_on calls found o place h is same = subst (λ (cs : List Call). IsFirstOnCycle cs place) same (subst (λ (x : Option Place). IfSome x (IsFirstOnCycle found)) is h)

pub none_on : (calls found : List Call) (o : Option Place) → IfNone o (NoneOnCycle found) → o ≡ None → found ≡ calls → NoneOnCycle calls
none_on calls found o h is same = subst NoneOnCycle same (subst (λ (x : Option Place). IfNone x (NoneOnCycle found)) is h)

-- of two calls on cycles the one that isn't before isn't refused sooner
cycle_not_sooner : (place other : Place) → IsTrue (not_after place other) → is_sooner (refusal CallCycle other) (refusal CallCycle place) ≡ false
unfolding is_sooner
cycle_not_sooner place other h =
    ap (λ b. b || (is_same_place other place && nat_lt 9 9)) (not-true (is_before other place) h) ∙ and_false (is_same_place other place)

pub first_of_table : (policy : PolicyTree) (listed first : Option Refusal) → listed ≡ noted None (refusals policy) → NotesCycle (calls_of policy) listed first → Least (Applies policy) first
first_of_table policy listed first e (no_cycle none) =
    least_same (Contains (refusals policy)) (Applies policy) (λ q h. inl h)
    (λ q h. ⊎_elim (λ (x : Contains (refusals policy) q). x)
    (λ (x : (c : Call) × Contains (calls_of policy) c × OnCycle (calls_of policy) c × (q ≡ refusal CallCycle c.place)). absurd (none x.0 x.1 x.2)) h)
    listed (subst (Least (Contains (refusals policy))) (sym e) (least_of_list (refusals policy)))
first_of_table policy listed first e (first_cycle place is) =
    least_wider (λ q. Contains (refusals policy) q ⊎ (refusal CallCycle place ≡ q)) (Applies policy)
    (λ q h. ⊎_elim (λ (x : Contains (refusals policy) q). inl x) (λ (x : refusal CallCycle place ≡ q). inr (is.call, is.is_call, is.on_cycle, sym x ∙ ap (refusal CallCycle) (sym is.at_place))) h)
    (λ q h. ⊎_elim
    (λ (x : Contains (refusals policy) q). (q, inl x, itself_not_sooner q))
    (λ (x : (c : Call) × Contains (calls_of policy) c × OnCycle (calls_of policy) c × (q ≡ refusal CallCycle c.place)).
    (refusal CallCycle place, inr refl, ap (λ (r : Refusal). is_sooner r (refusal CallCycle place)) x.3 ∙ cycle_not_sooner place x.0.place (is.none_before x.0 x.1 x.2))) h)
    (sooner listed (refusal CallCycle place))
    (least_more (Contains (refusals policy)) listed (refusal CallCycle place) (subst (Least (Contains (refusals policy))) (sym e) (least_of_list (refusals policy))))

pub first_is : (policy : PolicyTree) (first : Option Refusal) → Least (Applies policy) first → IfSome first (IsFirst policy)
first_is policy None least = tt
first_is policy (Some r) least = record { applies = least.0; first = least.1 }

pub none_is : (policy : PolicyTree) (first : Option Refusal) → Least (Applies policy) first → IfNone first (NoneApplies policy)
none_is policy None least = least
none_is policy (Some r) least = tt

-- without a refusal of the table, the policy is refused where it has no sequence
pub sequence_some : (policy : PolicyTree) (has : Bool) (table first : Option Refusal) → has ≡ has_sequence policy → IfNone table (NoneApplies policy) → table ≡ None →
    first ≡ (if has then None else Some (refusal NoSequence (first_place 0))) → IfSome first (FirstRefusal policy)
sequence_some policy true table first h n e is = subst (λ (o : Option Refusal). IfSome o (FirstRefusal policy)) (sym is) tt
sequence_some policy false table first h n e is =
    subst (λ (o : Option Refusal). IfSome o (FirstRefusal policy)) (sym is)
    (no_sequence (subst (λ (o : Option Refusal). IfNone o (NoneApplies policy)) e n) (sym h))

pub sequence_none : (policy : PolicyTree) (has : Bool) (table first : Option Refusal) → has ≡ has_sequence policy → IfNone table (NoneApplies policy) → table ≡ None →
    first ≡ (if has then None else Some (refusal NoSequence (first_place 0))) → IfNone first (NoneApplies policy × IsTrue (has_sequence policy))
sequence_none policy true table first h n e is =
    subst (λ (o : Option Refusal). IfNone o (NoneApplies policy × IsTrue (has_sequence policy))) (sym is)
    (subst (λ (o : Option Refusal). IfNone o (NoneApplies policy)) e n, sym h)
sequence_none policy false table first h n e is =
    subst (λ (o : Option Refusal). IfNone o (NoneApplies policy × IsTrue (has_sequence policy))) (sym is) tt

without_first : (P : Type 0) (o : Option Refusal) → ((r : Refusal) → o ≢ Some r) → IfNone o P → P
without_first P None none h = h
without_first P (Some r) none h = absurd (none r refl)

-- the first pattern that is none is refused where nothing else is
pub refused_pattern : (policy : PolicyTree) (o : Option Refusal) (r : Refusal) → IfNone o (NoneApplies policy × IsTrue (has_sequence policy)) →
    ((s : Refusal) → o ≢ Some s) → HasFirstBad (patterns_of policy) r → FirstRefusal policy r
refused_pattern policy o r h none bad =
    let stands = without_first (NoneApplies policy × IsTrue (has_sequence policy)) o none h in
    subst (FirstRefusal policy) (sym bad.is) (bad_pattern bad.pattern stands.0 stands.1 bad.first)

-- and so is what the check of the patterns told
pub told_pattern : (policy : PolicyTree) (o : Option Refusal) (e : SchemaErr) → IfNone o (NoneApplies policy × IsTrue (has_sequence policy)) →
    ((s : Refusal) → o ≢ Some s) → IfRefused e (HasFirstBad (patterns_of policy)) → IfRefused e (FirstRefusal policy)
told_pattern policy o (Refused r) h none bad = refused_pattern policy o r h none bad
told_pattern policy o (PatternTooBig text) h none bad = tt
told_pattern policy o NoMemory h none bad = tt

-- a text that was refused for its size was refused where nothing else is
pub told_size : (policy : PolicyTree) (o : Option Refusal) (text : Option (List ℕ)) (before after : Shown (List (List ℕ))) → IfNone o (NoneApplies policy × IsTrue (has_sequence policy)) →
    ((s : Refusal) → o ≢ Some s) → SizeRefusal (HasRefused (patterns_of policy)) text before after → SizeRefusal (IsRefusedForSize policy) text before after
told_size policy o None before after h none is = is
told_size policy o (Some text) before after h none is =
    let stands = without_first (NoneApplies policy × IsTrue (has_sequence policy)) o none h in
    let has = is.0 in
    (record { none_applies = stands.0; sequence = stands.1; pattern = has.pattern; before = has.before; after = has.after; stands = has.stands; good = has.good; reads = has.reads; text = has.text }, is.1)

-- an error that is a refusal keeps what holds of it
pub refused_is : {T : Type 0} (P : Refusal → Type 0) (result : Result T SchemaErr) → IfErr result (λ e. IfRefused e P) → (r : Refusal) → IsErrOf result (Refused r) → P r
refused_is {T} P result h r is = subst (λ (x : Result T SchemaErr). IfErr x (λ e. IfRefused e P)) is h
