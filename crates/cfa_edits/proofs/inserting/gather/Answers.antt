use Rattle.std.proofs.Common.{◌≡◌, ℕ, ◌+◌, ◌≤◌, length, arith, true, false, not, ◌&&◌, List, [], ◌∷◌, ◌++◌, take, drop, reverse, Some, sym, ap, ◌∙◌, Bor}
use Rattle.std.specs.Prelude.{slice_get}
use Rattle.std.proofs.lemmas.List.{map-append, take-append-drop, take_all}
use Rattle.std.proofs.lemmas.Option.{slice_get-get_or}
use Rattle.cfa_edits.specs.Edits.{Lines, is_among, lacking}
use Rattle.cfa_edits.specs.Steps.{lines_lent, has_line}
use Rattle.cfa_edits.proofs.DeckSteps.{turn}
use Rattle.cfa_edits.proofs.InsertSteps.{has_updated, lacking_more, lacking_gets, lacking_skips, among_itself, gathers, passes_over, seen_more, gathered_all}
use Rattle.cfa_edits.proofs.inserting.gather.Goals.{then-remove+in_ok-push, else-remove}
use Rattle.cfa_edits.proofs.inserting.gather.Goals as goal

pub loop-line-preserved : goal.loop-line-preserved
loop-line-preserved c = λ all there within has.
    let block = c.args.block.now in
    let name = c.as_str.result.now in
    let i = c.loop-line.line-index in
    let here : Some name ≡ slice_get block i =
    ap Some (c.as_str.ensures ∙ c.line-item.is)
    ∙ sym (slice_get-get_or c.as_slice-line-items.result.now i c.line-item.result c.loop-line-test.true)
    ∙ ap (λ (lines : Lines). slice_get lines i) c.as_slice-line-items.ensures in
    let t = turn block i name here in
    let seen : Lines = reverse (take i block) ++ there in
    let more : reverse (take (i + 1) block) ++ there ≡ name ∷ seen = ap (λ lines. reverse lines ++ there) t.before ∙ seen_more (take i block) there name in
    let so_far = c.loop-line.invariant all there within has in
    let among : is_among all name ≡ true =
    within name (ap (λ lines. is_among lines name) (sym (take-append-drop i block) ∙ ap (λ lines. take i block ++ lines) t.rest)
    ∙ among_itself (take i block) (drop (i + 1) block) name) in
    let updated = has_updated name c.loop-line.wanted c.remove.new.self false c.remove.ensures.updates in
    let kept = lacking_more (has_line c.loop-line.wanted) (has_line c.remove.new.self) all seen name so_far.1 updated in
    let behind : lines_lent c.loop-line.lines.items ++ lacking seen (name ∷ drop (i + 1) block) ≡ lacking there block =
    ap (λ lines. lines_lent c.loop-line.lines.items ++ lacking seen lines) (sym t.rest) ∙ so_far.0 in
    let left : lines_lent c.if-remove.lines.items ++ lacking (reverse (take (i + 1) block) ++ there) (drop (i + 1) block) ≡ lacking there block =
    elim c.if-remove.branch [
      | then-remove+in_ok-push w ↦
          let lent : lines_lent c.if-remove.lines.items ≡ lines_lent c.loop-line.lines.items ++ name ∷ [] =
          rw (w.lines-is, w.in_ok-push.ensures.items)
          (map-append (λ (line : Bor (List ℕ)). line.now) c.loop-line.lines.items (w.as_str-then-remove.result ∷ [])
          ∙ ap (λ line. lines_lent c.loop-line.lines.items ++ line ∷ []) (w.as_str-then-remove.ensures ∙ sym c.as_str.ensures)) in
          ap (λ lines. lines ++ lacking (reverse (take (i + 1) block) ++ there) (drop (i + 1) block)) lent
          ∙ gathers (lines_lent c.loop-line.lines.items) seen (reverse (take (i + 1) block) ++ there) (drop (i + 1) block) (lacking there block) name
          (lacking_gets all seen (drop (i + 1) block) name (has_line c.loop-line.wanted) so_far.1 among (sym w.if-remove.ensures.test)) more behind
      | else-remove w ↦
          rw w.lines-is
          (passes_over (lines_lent c.loop-line.lines.items) seen (reverse (take (i + 1) block) ++ there) (drop (i + 1) block) (lacking there block) name
          (lacking_skips all seen (drop (i + 1) block) name (has_line c.loop-line.wanted) so_far.1 among (sym w.if-remove.ensures.test)) more behind)
    ] in
    (left, λ line. kept line ∙ ap (λ lines. is_among all line && not (is_among lines line)) (sym more))

pub returns-clause-ok : goal.returns-clause-ok
returns-clause-ok c = λ all there within has.
    let block = c.args.block.now in
    let i = c.loop-line.line-index in
    let long : length c.as_slice-line-items.result.now ≡ length block = ap length c.as_slice-line-items.ensures in
    let past : length block ≤ i = omega (arith, c.loop-line-test.false) in
    gathered_all (lines_lent c.loop-line.lines.items) block there i past (c.loop-line.invariant all there within has).0

pub returns-clause-left : goal.returns-clause-left
returns-clause-left c = λ all there within has line.
    let block = c.args.block.now in
    let i = c.loop-line.line-index in
    let long : length c.as_slice-line-items.result.now ≡ length block = ap length c.as_slice-line-items.ensures in
    let past : length block ≤ i = omega (arith, c.loop-line-test.false) in
    (c.loop-line.invariant all there within has).1 line
    ∙ ap (λ lines. is_among all line && not (is_among (reverse lines ++ there) line)) (take_all i block past)
