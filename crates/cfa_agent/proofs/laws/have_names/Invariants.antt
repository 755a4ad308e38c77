use Rattle.std.specs.List.{AllWithin}
use Rattle.cfa_agent.specs.Journaled.{HasName}
use Rattle.cfa_agent.proofs.laws.have_names.Given as goal

abbrev pub invariant-loop-act : goal.invariant-loop-act
invariant-loop-act l = AllWithin HasName l.acts 0 l.act-index
