use Rattle.std.proofs.Common.{◌≡◌, ◌+◌, ◌≤◌, ◌++◌, drop}
use Rattle.std.specs.String.{string_bytes}
use Rattle.cfa_edits.specs.Steps.{written_from}
use Rattle.cfa_edits.proofs.fields.write_fields.Given as goal

abbrev pub invariant-loop-c : goal.invariant-loop-c
invariant-loop-c l = (l.field ≤ 1 + l.c-index)
    × (string_bytes l.text ++ written_from l.separator l.number l.value l.field (drop l.c-index l.chars)
    ≡ string_bytes l.initial.text ++ written_from l.separator l.number l.value 1 l.chars)
