use Rattle.std.proofs.Common.{◌≡◌, ◌++◌, drop}
use Rattle.std.specs.FinMap as map
use Rattle.cfa_history.specs.Gaps.{gaps_on, writes}
use Rattle.cfa_history.specs.Instances.{ending_of}
use Rattle.cfa_history.proofs.gaps.gaps_of.Given as goal

abbrev pub invariant-loop-i : goal.invariant-loop-i
invariant-loop-i l =
    record {
      ending : l.at.ending ≡ ending_of (drop l.i l.records);
      so_far : l.gaps.items ++ gaps_on l.latest (writes l.at.moment (drop l.i l.records)) ≡ gaps_on map.empty (writes 0 l.records);
    }
