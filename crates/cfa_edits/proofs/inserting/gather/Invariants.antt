use Rattle.std.proofs.Common.{◌≡◌, ◌++◌, take, drop, reverse}
use Rattle.cfa_edits.specs.Edits.{Lines, lacking}
use Rattle.cfa_edits.specs.Steps.{lines_lent, HasLacking, AreAmong}
use Rattle.cfa_edits.proofs.inserting.gather.Given as goal

abbrev pub invariant-loop-line : goal.invariant-loop-line
invariant-loop-line l = (all there : Lines) → AreAmong l.block all → HasLacking l.fn.wanted all there
    → (lines_lent l.lines.items ++ lacking (reverse (take l.line-index l.block) ++ there) (drop l.line-index l.block) ≡ lacking there l.block)
    × HasLacking l.wanted all (reverse (take l.line-index l.block) ++ there)
