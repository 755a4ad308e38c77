use Rattle.std.proofs.Common.{◌∙◌, inr, refl, sym}
use Rattle.cfa_uses.proofs.PartLemmas.{same_place}
use Rattle.cfa_uses.proofs.statements.text_at.Goals as goal

pub returns-then-eq : goal.returns-then-eq
returns-then-eq c = inr (record {
  token = c.token-item.result;
  listed = (c.loop-token.token-index, c.loop-token-test.true, sym c.token-item.is);
  at = same_place c.token-item.result.place c.args.at (sym c.eq.ensures ∙ c.if-eq.true);
  spelled = refl;
})
