use Rattle.std.proofs.Common.{◌≡◌, ℕ, List, ap, ◌∙◌, arith}
use Rattle.std.specs.List.{flat_map, list_any}
use Rattle.std.specs.Prelude.{nat_eq}
use Rattle.cfa_acts.specs.declared.acts.Act.{Act}
use Rattle.cfa_states.specs.Tellers.{acts_of}
use Rattle.cfa_conflict.specs.Targets.{sought}
use Rattle.cfa_conflict.proofs.CalmLemmas.{never_undone}
use Rattle.cfa_conflict.proofs.judging.may_be_undone.Goals as goal

pub returns : goal.returns
returns c = λ _.
    let s = c.args.all.now in
    let likes = s.distinct in
    let one = c.args.one.now in
    let places = c.deref-place-items.result.now in
    let all : (k : ℕ) → list_any (nat_eq k) places ≡ list_any (nat_eq k) (flat_map (sought likes) (acts_of one.work)) =
    λ k. ap (list_any (nat_eq k)) c.deref-place-items.ensures.value ∙ c.in_ok-places.ensures.places k
    ∙ ap (λ (l : List Act). list_any (nat_eq k) (flat_map (sought likes) l)) c.acts_of.ensures.acts in
    never_undone s.instances.now s.targets likes s.each_aimed s.each_like one places all
    (λ j lt d low. c.loop-place.invariant j (omega arith) d low)
