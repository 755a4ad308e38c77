use Rattle.std.proofs.Common.{List, ℕ, take}
use Rattle.cfa_base.specs.Shown.{Follows}
use Rattle.cfa_outside.specs.Sinks.{adds_bytes}
use Rattle.cfa_agent.specs.Ran.{text_of_lines}
use Rattle.cfa_agent.proofs.putting.put_lines.Given as goal

-- the lines before this one were put
abbrev pub invariant-loop-line : goal.invariant-loop-line
invariant-loop-line g l = Follows (adds_bytes (text_of_lines (take l.line-index l.lines))) (g.O.Sink.shown l.initial.out) (g.O.Sink.shown l.out)
