use Rattle.std.proofs.Common.{◌≡◌, ℕ, List, get_or, Some, sym, ap, subst, ◌∙◌, arith}
use Rattle.std.proofs.lemmas.Option.{slice_get_within, get_or_from_slice_get}
use Rattle.std.specs.List.{flat_map, list_any}
use Rattle.std.specs.List.Sorted.{IsNonDecreasing}
use Rattle.std.specs.Prelude.{nat_eq, slice_get}
use Rattle.cfa_acts.specs.declared.acts.Act.{Act}
use Rattle.cfa_resolve.specs.declared.instances.Instance.{Instance}
use Rattle.cfa_states.specs.Tellers.{acts_of}
use Rattle.cfa_conflict.specs.Conflicts.{undone_in}
use Rattle.cfa_conflict.specs.Targets.{first_of, sought}
use Rattle.cfa_conflict.proofs.NumberLemmas.{got_is}
use Rattle.cfa_conflict.proofs.QuietLemmas.{first_in_all, none_in_all}
use Rattle.cfa_conflict.proofs.judging.first_undone.Goals as goal

pub returns-in-Some-2 : goal.returns-in-Some-2
returns-in-Some-2 c =
    let s = c.args.all.now in
    let instances = s.instances.now in
    let rows = s.targets in
    let one = c.args.one.instance.now in
    let places = c.deref-place-items.result.now in
    let n = get_or places c.loop-place.place-index 0 in
    let other = c.in-Some.instance.now in
    let all : (k : ℕ) → list_any (nat_eq k) places ≡ list_any (nat_eq k) (flat_map (sought rows) (acts_of one.work)) =
    λ k. ap (list_any (nat_eq k)) c.deref-place-items.ensures.value ∙ c.in_ok-places.ensures.places k
    ∙ ap (λ (l : List Act). list_any (nat_eq k) (flat_map (sought rows) l)) c.acts_of.ensures.acts in
    let up : IsNonDecreasing places = subst IsNonDecreasing (sym c.deref-place-items.ensures.value) c.in_ok-places.ensures.order in
    let here : slice_get instances n ≡ Some other = sym (got_is instances n (Some c.in-Some.instance) c.in-Some.ensures.lookup) in
    let some = ap (λ (x : Instance). first_of (undone_in s.visits.visits.now one c.args.one.place x n)) (get_or_from_slice_get instances n other other here)
    ∙ sym c.in_ok-found.ensures ∙ c.in-Some-2.is in
    sym (first_in_all s.visits.visits.now instances rows s.each_aimed one c.args.one.place c.requires.instance places all up c.loop-place.place-index other
    c.in-Some-2.found c.loop-place-test.true (slice_get_within instances n other here) c.loop-place.invariant some)

pub returns : goal.returns
returns c =
    let s = c.args.all.now in
    let rows = s.targets in
    let one = c.args.one.instance.now in
    let places = c.deref-place-items.result.now in
    let all : (k : ℕ) → list_any (nat_eq k) places ≡ list_any (nat_eq k) (flat_map (sought rows) (acts_of one.work)) =
    λ k. ap (list_any (nat_eq k)) c.deref-place-items.ensures.value ∙ c.in_ok-places.ensures.places k
    ∙ ap (λ (l : List Act). list_any (nat_eq k) (flat_map (sought rows) l)) c.acts_of.ensures.acts in
    sym (none_in_all s.visits.visits.now s.instances.now rows s.each_aimed one c.args.one.place c.requires.instance places all one
    (λ j lt d low. c.loop-place.invariant j (omega arith) d low))
