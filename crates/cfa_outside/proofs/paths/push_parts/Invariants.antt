use Rattle.std.proofs.Common.{◌≡◌, ◌++◌, drop, map}
use Rattle.std.specs.String.{string_bytes}
use Rattle.cfa_outside.specs.Paths.{joined}
use Rattle.cfa_outside.proofs.paths.push_parts.Given as goal

-- what is written and what the rest gives is what all give
abbrev pub invariant-loop-part : goal.invariant-loop-part
invariant-loop-part l =
    string_bytes l.whole ++ joined (map (λ x. x.now) (drop l.part-index l.parts)) ≡ string_bytes l.initial.whole ++ joined (map (λ x. x.now) l.parts)
