use Rattle.cfa_base.proofs.PatternLemmas.{matches_as_built}
use Rattle.cfa_base.proofs.patterns.matcher.Matcher.matches.Goals as goal

pub returns-clause-found : goal.returns-clause-found
returns-clause-found c =
    rw (← c.self.view_is, c.is_match.ensures.found, c.self.invariant.same)
    (matches_as_built _ _ _ c.self.invariant.built c.args.text.now (λ k. (c.type_inv.text k).fits))
