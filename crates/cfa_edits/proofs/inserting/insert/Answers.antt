use Rattle.std.proofs.Common.{rules, ◌≡◌, ◌<◌, List, ℕ, [], length, sym, subst, ap, ◌∙◌, arith, Bor, IfErr, Result}
use Rattle.std.proofs.lemmas.List.{length-map, nil_from_length}
use Rattle.std.proofs.lemmas.Result.{on_ok_weaker}
use Rattle.cfa_edits.specs.declared.edits.EditErr.{EditErr}
use Rattle.cfa_edits.specs.Answers.{IsRefusalOf}
use Rattle.cfa_edits.specs.Edits.{Lines, lacking, inserted}
use Rattle.cfa_edits.specs.Steps.{lines_lent, has_line}
use Rattle.cfa_edits.proofs.InsertSteps.{inserted_some, wanted_left}
use Rattle.cfa_edits.proofs.inserting.insert.Goals as goal

pub returns-then-is_empty-clause-ok : goal.returns-then-is_empty-clause-ok
returns-then-is_empty-clause-ok c = λ all within has.
    let lines = c.args.deck.now.lines in
    let block = c.args.block.now in
    let found : lines_lent c.gather.new.lines.items ≡ lacking lines block = c.in_ok-gather.ensures.ok all lines within has in
    let few : length c.gather.new.lines.items ≡ 0 = search rules in
    let none : c.gather.new.lines.items ≡ [] = nil_from_length c.gather.new.lines.items few in
    ap (λ more. inserted c.args.spot.now more lines) (sym found ∙ ap lines_lent none)

pub returns-then-is_empty-clause-wanted : goal.returns-then-is_empty-clause-wanted
returns-then-is_empty-clause-wanted c = λ all within has.
    let lines = c.args.deck.now.lines in
    let block = c.args.block.now in
    let found : lines_lent c.gather.new.lines.items ≡ lacking lines block = c.in_ok-gather.ensures.ok all lines within has in
    let few : length c.gather.new.lines.items ≡ 0 = search rules in
    let none : c.gather.new.lines.items ≡ [] = nil_from_length c.gather.new.lines.items few in
    wanted_left (has_line c.gather.new.wanted) all block lines lines c.args.spot.now (c.in_ok-gather.ensures.left all lines within has)
    (ap (λ more. inserted c.args.spot.now more lines) (sym found ∙ ap lines_lent none))

pub returns-clause-ok : goal.returns-clause-ok
returns-clause-ok c = λ all within has.
    let lines = c.args.deck.now.lines in
    let block = c.args.block.now in
    let found : lines_lent c.gather.new.lines.items ≡ lacking lines block = c.in_ok-gather.ensures.ok all lines within has in
    let full : 0 < length c.gather.new.lines.items = search rules in
    let some : 0 < length (lacking lines block) =
    rw (← found) (omega (arith, full, length-map c.gather.new.lines.items (λ (line : Bor (List ℕ)). line.now))) in
    on_ok_weaker c.put_at_spot.result
    (λ put. inserted_some c.args.spot.now (lacking lines block) lines some ∙ (rw (c.deref.ensures.value, found) at put))
    c.put_at_spot.ensures.ok

pub returns-clause-wanted : goal.returns-clause-wanted
returns-clause-wanted c = λ all within has.
    let lines = c.args.deck.now.lines in
    let block = c.args.block.now in
    let found : lines_lent c.gather.new.lines.items ≡ lacking lines block = c.in_ok-gather.ensures.ok all lines within has in
    let full : 0 < length c.gather.new.lines.items = search rules in
    let some : 0 < length (lacking lines block) =
    rw (← found) (omega (arith, full, length-map c.gather.new.lines.items (λ (line : Bor (List ℕ)). line.now))) in
    on_ok_weaker c.put_at_spot.result
    (λ put. wanted_left (has_line c.gather.new.wanted) all block lines c.put_at_spot.new.deck.lines c.args.spot.now (c.in_ok-gather.ensures.left all lines within has)
    (inserted_some c.args.spot.now (lacking lines block) lines some ∙ (rw (c.deref.ensures.value, found) at put)))
    c.put_at_spot.ensures.ok

pub returns-clause-refused : goal.returns-clause-refused
returns-clause-refused c = λ all within has.
    let lines = c.args.deck.now.lines in
    let block = c.args.block.now in
    let found : lines_lent c.gather.new.lines.items ≡ lacking lines block = c.in_ok-gather.ensures.ok all lines within has in
    let full : 0 < length c.gather.new.lines.items = search rules in
    let some : 0 < length (lacking lines block) =
    rw (← found) (omega (arith, full, length-map c.gather.new.lines.items (λ (line : Bor (List ℕ)). line.now))) in
    let refused = rw (c.deref.ensures.value, found) at c.put_at_spot.ensures.refused in
    subst (λ (answer : Result Lines EditErr). IfErr c.put_at_spot.result (IsRefusalOf answer)) (sym (inserted_some c.args.spot.now (lacking lines block) lines some)) refused
