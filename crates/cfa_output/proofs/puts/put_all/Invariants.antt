use Rattle.std.proofs.Common.{◌≤◌, ◌-◌, length, take}
use Rattle.cfa_base.specs.Shown.{Follows}
use Rattle.cfa_outside.specs.Sinks.{adds_bytes}
use Rattle.cfa_output.proofs.puts.put_all.Given as goal

-- a first part of the bytes was put
abbrev pub invariant-loop-count : goal.invariant-loop-count
invariant-loop-count g l =
    record {
      within : l.count ≤ length l.bytes;
      put : Follows (adds_bytes (take l.count l.bytes)) (g.O.Sink.shown l.fn.out) (g.O.Sink.shown l.out);
    }

abbrev pub decreases-loop-count : goal.decreases-loop-count
decreases-loop-count g l = length l.bytes - l.count
