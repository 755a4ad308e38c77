use Rattle.std.proofs.Common.{subst}
use Rattle.cfa_uses.specs.Found.{AllHaveTokens}
use Rattle.cfa_uses.proofs.walking.uses_of.Goals as goal

pub returns-then-has_tokens-clause-tokens : goal.returns-then-has_tokens-clause-tokens
returns-then-has_tokens-clause-tokens c _ = subst AllHaveTokens c.texts.ensures (c.in_ok-has_tokens.ensures.tokens c.if-has_tokens.true)
