use Rattle.cfa_advice.specs.Sources.{AreNamed}
use Rattle.cfa_advice.proofs.sources.Sources.read.Given as goal

-- each source that was read has one of the names
abbrev pub invariant-loop-name : goal.invariant-loop-name
invariant-loop-name g l = AreNamed l.names l.texts.items
