use Rattle.std.proofs.Common.{◌≡◌, ℕ, ◌+◌, List, ◌++◌, length, take, drop, sym, ap, ◌∙◌, arith, Bor}
use Rattle.std.proofs.lemmas.List.{take_more, map-append, length-map, length-take-le}
use Rattle.cfa_edits.specs.Steps.{lines_lent}
use Rattle.cfa_edits.proofs.InsertSteps.{put_more}
use Rattle.cfa_edits.proofs.inserting.put_in.Goals as goal

pub loop-line-preserved : goal.loop-line-preserved
loop-line-preserved c =
    let lines = c.args.lines.now in
    let i = c.loop-line.line-index in
    let front = take c.args.deck.now.place c.args.deck.now.lines in
    let rest = drop c.args.deck.now.place c.args.deck.now.lines in
    let count : length front + length (lines_lent (take i lines)) ≡ c.loop-line.deck.place =
    omega (arith, c.loop-line.invariant.0, length-take-le c.args.deck.now.place c.args.deck.now.lines c.requires, length-map (take i lines) (λ (line : Bor (List ℕ)). line.now), length-take-le i lines (omega (arith, c.loop-line-test.true))) in
    rw c.in_ok-insert.ensures.ok (
      omega (arith, c.loop-line.invariant.0),
      put_more front (lines_lent (take i lines)) rest c.loop-line.deck.lines c.loop-line.deck.place _ c.loop-line.invariant.1 count
          ∙ ap (λ ls. front ++ (ls ++ rest))
          (sym (ap lines_lent (take_more lines i _ c.loop-line-test.true) ∙ map-append (λ (line : Bor (List ℕ)). line.now) (take i lines) _)),
    )
