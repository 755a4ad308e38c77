use Rattle.std.proofs.Common.{◌≡◌, drop}
use Rattle.cfa_main.specs.Searches.{script_among}
use Rattle.cfa_main.proofs.searching.script_among.Given as goal

abbrev pub invariant-loop-act : goal.invariant-loop-act
invariant-loop-act l = script_among (drop l.act-index l.acts) ≡ script_among l.acts
