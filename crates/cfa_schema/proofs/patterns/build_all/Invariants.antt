use Rattle.std.proofs.Common.{◌≡◌, take, map}
use Rattle.std.specs.Prelude.{All}
use Rattle.cfa_schema.specs.Collected.{seen_pattern}
use Rattle.cfa_schema.specs.Valid.{IsPattern}
use Rattle.cfa_schema.proofs.patterns.build_all.Given as goal

-- what was built so far are patterns, and nothing was refused for its size
abbrev pub invariant-loop-pattern : goal.invariant-loop-pattern
invariant-loop-pattern g l = record {
  good : All IsPattern (map seen_pattern (take l.pattern-index l.patterns));
  shown : g.P.Patterns.shown l.pats ≡ g.P.Patterns.shown l.fn.pats;
}
