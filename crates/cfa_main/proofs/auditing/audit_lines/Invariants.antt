use Rattle.std.proofs.Common.{◌≡◌, flat_map, string_bytes, take}
use Rattle.cfa_main.specs.Audits.{run_line}
use Rattle.cfa_main.proofs.auditing.audit_lines.Given as goal

abbrev pub invariant-loop-run : goal.invariant-loop-run
invariant-loop-run l = string_bytes l.text ≡ flat_map run_line (take l.run-index l.run-items)
