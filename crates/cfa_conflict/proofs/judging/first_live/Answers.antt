use Rattle.std.proofs.Common.{◌≡◌, true, List, Some, sym, ap, ◌∙◌}
use Rattle.cfa_resolve.specs.declared.instances.Instance.{Instance}
use Rattle.cfa_conflict.specs.Conflicts.{is_live, conflicts_at, conflicts_from}
use Rattle.cfa_conflict.specs.Targets.{first_of}
use Rattle.cfa_conflict.proofs.NameLemmas.{live_by_names}
use Rattle.cfa_conflict.proofs.VerdictLemmas.{at_walk, passed_over, none_at, found_at}
use Rattle.cfa_conflict.proofs.judging.first_live.Goals as goal
use Rattle.cfa_conflict.proofs.judging.first_live.Goals.{then-is_live+in_ok-found+in_default, else-is_live}

pub returns-in-Some : goal.returns-in-Some
returns-in-Some c = λ kept walk named seen listed.
    let x = c.index-instances-place.result in
    let instances = c.args.all.now.instances.now in
    let i = c.loop-place.place in
    let lives : is_live kept x ≡ true = sym (live_by_names kept x c.args.names.now named) ∙ sym c.is_live.ensures ∙ c.if-is_live.true in
    let here = at_walk walk c.args.all.now.visits.visits.now instances x i seen listed in
    let some : first_of (conflicts_at walk x i) ≡ Some c.in-Some.found = sym (ap first_of here) ∙ sym c.in_ok-found.ensures ∙ c.in-Some.is in
    sym (found_at kept walk instances i x c.loop-place-test.true c.index-instances-place.is c.in-Some.found lives some)
    ∙ c.loop-place.invariant kept walk named seen listed ∙ ap (λ (l : List Instance). first_of (conflicts_from kept walk l 0)) listed

pub loop-place-preserved : goal.loop-place-preserved
loop-place-preserved c = λ kept walk named seen listed.
    let x = c.index-instances-place.result in
    let instances = c.args.all.now.instances.now in
    let i = c.loop-place.place in
    let lives : c.is_live.result ≡ is_live kept x = c.is_live.ensures ∙ live_by_names kept x c.args.names.now named in
    let here = at_walk walk c.args.all.now.visits.visits.now instances x i seen listed in
    elim c.if-is_live.branch [
      | then-is_live+in_ok-found+in_default w ↦
          sym (none_at kept walk instances i x c.loop-place-test.true c.index-instances-place.is (sym lives ∙ w.if-is_live.true)
          (sym (ap first_of here) ∙ sym w.in_ok-found.ensures ∙ w.in_default.is)) ∙ c.loop-place.invariant kept walk named seen listed
      | else-is_live w ↦
          sym (passed_over kept walk instances i x c.loop-place-test.true c.index-instances-place.is (sym lives ∙ w.if-is_live.false)) ∙ c.loop-place.invariant kept walk named seen listed
    ]
