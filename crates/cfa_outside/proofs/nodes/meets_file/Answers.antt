use Rattle.std.proofs.Common.{◌<◌, length, sym, ap, ◌∙◌, arith}
use Rattle.std.proofs.lemmas.Grind.{common_steps}
use Rattle.std.specs.FinMap as map
use Rattle.std.specs.List.{list_any}
use Rattle.cfa_outside.specs.Worlds.{is_file, is_blocked}
use Rattle.cfa_outside.proofs.Above.{above_here, above_done, above_whole}
use Rattle.cfa_outside.proofs.nodes.meets_file.Goals as goal

pub loop-i-init : goal.loop-i-init
loop-i-init c = ap (list_any (λ p. is_file (map.get c.args.rows.now p))) (sym (above_whole c.args.path.now))

pub returns-then-tests_as_file : goal.returns-then-tests_as_file
unfolding is_blocked
returns-then-tests_as_file c =
    let lt : c.loop-i.i < length c.args.path.now = omega arith in
    let here = ap (list_any (λ p. is_file (map.get c.args.rows.now p))) (above_here c.args.path.now c.loop-i.i lt) in
    grind (arith, common_steps)

pub returns : goal.returns
unfolding is_blocked
returns c =
    sym (sym c.loop-i.invariant
    ∙ ap (list_any (λ p. is_file (map.get c.args.rows.now p))) (above_done c.args.path.now c.loop-i.i (omega arith)))
