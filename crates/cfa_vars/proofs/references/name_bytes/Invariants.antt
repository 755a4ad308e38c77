use Rattle.std.proofs.Common.{◌≡◌, ◌+◌, drop}
use Rattle.std.specs.List.{prefix_len}
use Rattle.cfa_base.specs.Lexing.{is_name_byte}
use Rattle.cfa_vars.proofs.references.name_bytes.Given as goal

abbrev pub invariant-loop-place : goal.invariant-loop-place
invariant-loop-place l = l.place + prefix_len is_name_byte (drop l.place l.text) ≡ prefix_len is_name_byte l.text
