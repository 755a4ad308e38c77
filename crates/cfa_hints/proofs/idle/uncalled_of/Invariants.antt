use Rattle.std.proofs.Common.{List, All}
use Rattle.cfa_base.specs.Index.{Text}
use Rattle.cfa_hints.specs.Findings.{IsTrueOf}
use Rattle.cfa_hints.proofs.idle.uncalled_of.Given as goal

-- what was found so far is true, whatever the call sets
abbrev pub invariant-loop-bundle : goal.invariant-loop-bundle
invariant-loop-bundle l = (defined : List Text) → All (IsTrueOf l.sources l.uses defined) l.found.items
