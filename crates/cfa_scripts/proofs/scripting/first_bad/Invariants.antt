use Rattle.std.proofs.Common.{◌≡◌, drop}
use Rattle.cfa_scripts.specs.EditScripts.{first_bad}
use Rattle.cfa_scripts.proofs.scripting.first_bad.Given as goal

abbrev pub invariant-loop-contribution : goal.invariant-loop-contribution
invariant-loop-contribution l = first_bad (drop l.contribution-index l.contributions) ≡ first_bad l.contributions
