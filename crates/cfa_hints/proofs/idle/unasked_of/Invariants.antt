use Rattle.std.proofs.Common.{List, All}
use Rattle.cfa_base.specs.Index.{Text}
use Rattle.cfa_hints.specs.Findings.{IsTrueOf}
use Rattle.cfa_hints.proofs.idle.unasked_of.Given as goal

-- what was found so far is true, whatever the sources are
abbrev pub invariant-loop-class : goal.invariant-loop-class
invariant-loop-class l = (sources : List (Text × Text)) → All (IsTrueOf sources l.uses l.defined) l.found.items
