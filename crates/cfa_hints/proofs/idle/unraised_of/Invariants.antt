use Rattle.std.proofs.Common.{All}
use Rattle.cfa_hints.specs.Findings.{IsTrueOf}
use Rattle.cfa_hints.proofs.idle.unraised_of.Given as goal

-- what was found so far is true
abbrev pub invariant-loop-mention : goal.invariant-loop-mention
invariant-loop-mention l = All (IsTrueOf l.sources l.uses l.defined) l.found.items
