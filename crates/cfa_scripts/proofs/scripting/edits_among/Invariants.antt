use Rattle.std.proofs.Common.{◌≡◌}
use Rattle.cfa_scripts.specs.EditScripts.{edits_among}
use Rattle.cfa_scripts.proofs.scripting.edits_among.Given as goal

abbrev pub invariant-loop-contribution : goal.invariant-loop-contribution
invariant-loop-contribution l = l.edits.items ≡ edits_among l.yielded
