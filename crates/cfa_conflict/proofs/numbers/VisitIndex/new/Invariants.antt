use Rattle.std.proofs.Common.{◌≡◌, ℕ, ◌<◌, length, drop, get_or}
use Rattle.cfa_conflict.specs.Targets.{first_from, last_from}
use Rattle.cfa_conflict.proofs.numbers.VisitIndex.new.Given as goal

abbrev pub invariant-loop-i : goal.invariant-loop-i
invariant-loop-i l = record {
  firsts : length l.firsts.items ≡ l.count;
  lasts : length l.lasts.items ≡ l.count;
  first : (place : ℕ) → place < l.count → get_or l.firsts.items place 0 ≡ first_from l.i (drop l.i l.visits) place;
  last : (place : ℕ) → place < l.count → get_or l.lasts.items place 0 ≡ last_from l.i (drop l.i l.visits) place;
}
