use Rattle.std.proofs.Common.{All, refl, is_ok, sym, subst}
use Rattle.cfa_uses.specs.Parts.{IsPart}
use Rattle.cfa_uses.proofs.PartLemmas.{all_push}
use Rattle.cfa_uses.proofs.statements.add_part.Goals as goal

pub returns : goal.returns
returns c tokens begun token all =
    subst (All (IsPart tokens)) (sym c.push.ensures.items)
    (all_push (IsPart tokens) (is_ok c.push.result) c.args.parts.now.items _
    (record {
      first = record { token = c.args.begun; listed = begun; at = refl; spelled = refl };
      last = record { token = c.args.token; listed = token; behind = c.behind.ensures };
    }) all)
