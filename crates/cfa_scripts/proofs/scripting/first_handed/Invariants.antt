use Rattle.std.proofs.Common.{◌≡◌, drop}
use Rattle.cfa_scripts.specs.EditScripts.{first_handed}
use Rattle.cfa_scripts.proofs.scripting.first_handed.Given as goal

abbrev pub invariant-loop-contribution : goal.invariant-loop-contribution
invariant-loop-contribution l = first_handed (drop l.contribution-index l.contributions) ≡ first_handed l.contributions
