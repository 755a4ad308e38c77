use Rattle.std.proofs.Common.{◌≡◌, ◌++◌, string_bytes}
use Rattle.cfa_demo.specs.Policies.{text_of, opening, promise_lines}
use Rattle.cfa_demo.proofs.policies.demo_policy.Given as goal

-- the text so far has the promises of the numbers so far
abbrev pub invariant-loop-k : goal.invariant-loop-k
invariant-loop-k l = string_bytes l.text ≡ text_of (opening ++ promise_lines l.k)
