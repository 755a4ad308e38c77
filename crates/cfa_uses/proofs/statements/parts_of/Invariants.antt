use Rattle.std.proofs.Common.{All, Contains, IfSome}
use Rattle.cfa_uses.specs.Parts.{IsPart}
use Rattle.cfa_uses.proofs.statements.parts_of.Given as goal

-- each part so far begins and ends with tokens, and so does the one that is begun
abbrev pub invariant-loop-token : goal.invariant-loop-token
invariant-loop-token l = record {
  parts : All (IsPart l.tokens) l.parts.items;
  begun : IfSome l.first (λ token. Contains l.tokens token);
}
