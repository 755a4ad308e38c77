use Rattle.std.proofs.Common.{◌≡◌, drop}
use Rattle.cfa_scripts.specs.EditScripts.{first_unresolved}
use Rattle.cfa_scripts.proofs.scripting.first_unresolved.Given as goal

abbrev pub invariant-loop-contribution : goal.invariant-loop-contribution
invariant-loop-contribution l = first_unresolved (drop l.contribution-index l.contributions) ≡ first_unresolved l.contributions
