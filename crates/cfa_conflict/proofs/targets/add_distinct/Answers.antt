use Rattle.std.proofs.Common.{List, [], get_or, Vec, Global, refl, ap, ◌∙◌, sym}
use Rattle.std.proofs.lemmas.List.{map_push}
use Rattle.std.specs.List.{list_any}
use Rattle.cfa_conflict.specs.Targets.{seen_row, seen_rows, is_like}
use Rattle.cfa_conflict.proofs.PlaceLemmas.{Seen}
use Rattle.cfa_conflict.proofs.LikeLemmas.{likes_pushed, likes_found, likes_done}
use Rattle.cfa_conflict.proofs.targets.add_distinct.Goals as goal
use Rattle.cfa_conflict.proofs.targets.add_distinct.Goals.{then-not-has_like+in_ok-push, else-not-has_like}

pub loop-target-preserved : goal.loop-target-preserved
loop-target-preserved c =
    let instances = c.args.instances.now in
    let all = c.args.rows.now in
    let i = c.loop-target.target-index in
    let before = c.loop-target.likes.items in
    let more = seen_rows c.if-not-has_like.likes.items in
    let d : Seen = (record { ref_ptr = (0, 0); now = [] }, 0) in
    let row = get_or all i d in
    elim c.if-not-has_like.branch [
      | then-not-has_like+in_ok-push w ↦
          likes_pushed instances all (seen_rows before) more i d c.loop-target-test.true c.loop-target.invariant
          (ap (λ (v : Vec Seen Global). seen_rows v.items) w.likes-is ∙ ap seen_rows w.in_ok-push.ensures.items ∙ map_push seen_row before row)
      | else-not-has_like w ↦
          likes_found instances all (seen_rows before) more i d c.loop-target-test.true c.loop-target.invariant
          (ap (λ (v : Vec Seen Global). seen_rows v.items) w.likes-is)
          (ap (λ (l : List Seen). list_any (is_like instances row.0.now row.1) (seen_rows l)) (sym c.as_slice.ensures.value)
          ∙ c.has_like.ensures w.if-not-has_like.false)
    ]

pub returns : goal.returns
returns c =
    likes_done c.args.instances.now c.args.rows.now (seen_rows c.args.rows.now) (seen_rows c.loop-target.likes.items) c.loop-target.target-index
    c.loop-target-test.false refl c.loop-target.invariant
