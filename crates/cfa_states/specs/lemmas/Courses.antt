-- Courses that go on to a history, and histories that go on quietly and spare what is local to shorter paths.
use Rattle.cfa_states.specs.History.{History, Event, Set}
use Rattle.cfa_states.specs.Levels.{GoesTo, Quietly, nothing, one_more, SpareIf}
use Rattle.cfa_states.specs.Passes.{Course, goes, too_large, most_visits, bind}
use Rattle.std.proofs.Common.{◌≡◌, ℕ, ◌+◌, ◌≤◌, ◌<◌, Bool, List, [], ◌∷◌, length, refl, arith}
use Rattle.cfa_tree.specs.Tree.{NamedTree}
use Rattle.cfa_vars.specs.declared.scoping.Datum.{Datum}
use Rattle.cfa_states.specs.Kept.{SpareShorter}
use Rattle.cfa_states.specs.lemmas.Spared.{spare_none, spare_then, locals_none, spare_if, spare_if_then, locals_set, spare_set}

-- ---- courses

pub goes_weaker : (c : Course) (P Q : History → Type 0) → ((k : History) → P k → Q k) → GoesTo c P → GoesTo c Q
goes_weaker (goes h) P Q pq p = pq h p
goes_weaker (too_large h) P Q pq p = absurd p

-- ---- quiet levels one after the other

pub quietly_then : {h k m : History} → Quietly h k → Quietly k m → Quietly h m
quietly_then first nothing = first
quietly_then first (one_more event quiet more) = one_more event quiet (quietly_then first more)

-- ---- what is local to shorter paths, and in a common bundle to any, is as it was

abbrev pub Passed : (is_common : Bool) → (path : List ℕ) → (h k : History) → Type 0
Passed is_common path h k = Quietly h k × (SpareShorter (length path) h k × SpareIf is_common h k)

pub passed_then : (is_common : Bool) (path : List ℕ) (h k m : History) → Passed is_common path h k → Passed is_common path k m → Passed is_common path h m
passed_then is_common path h k m hk km =
    (quietly_then hk.0 km.0, (spare_then (length path) h k m hk.1.0 km.1.0, spare_if_then is_common h k m hk.1.1 km.1.1))

pub passed_none : (is_common : Bool) (path : List ℕ) (h : History) → Passed is_common path h h
passed_none is_common path h = (nothing, (spare_none (length path) h, spare_if is_common h h (locals_none h)))

pub passed_set : (is_common : Bool) (path name : List ℕ) (datum : Datum) (h : History) → Passed is_common path h (Set path name datum ∷ h)
passed_set is_common path name datum h =
    let event : Event = Set path name datum in
    (one_more event refl nothing, (spare_set (length path) h path name datum (omega arith), spare_if is_common h (event ∷ h) (locals_set h path name datum)))

-- binding is quiet, and spares what is local to shorter paths
pub passed_bind : (is_common : Bool) (path : List ℕ) (params : List NamedTree) (given : List Datum) (h : History) → Passed is_common path h (bind path params given h)
passed_bind is_common path [] given h = passed_none is_common path h
passed_bind is_common path (p ∷ params) [] h = passed_none is_common path h
passed_bind is_common path (p ∷ params) (datum ∷ given) h =
    passed_then is_common path h (Set path p.name datum ∷ h) (bind path params given (Set path p.name datum ∷ h))
    (passed_set is_common path p.name datum h) (passed_bind is_common path params given (Set path p.name datum ∷ h))

-- ---- limits

pub fits : (left visits before : ℕ) → visits ≤ left → left + before ≡ most_visits → visits + before ≤ most_visits
fits left visits before enough is = omega arith

pub exceeds : (left visits before : ℕ) → left < visits → left + before ≡ most_visits → most_visits < visits + before
exceeds left visits before few is = omega arith
