use Rattle.std.proofs.Common.{Contains, is_ok, sym, subst}
use Rattle.cfa_advice.specs.Sources.{AreNamed}
use Rattle.cfa_advice.proofs.SourceLemmas.{named_push}
use Rattle.cfa_advice.proofs.sources.read_to.Goals as goal

pub returns-in-Some : goal.returns-in-Some
returns-in-Some g c names named all =
    subst (AreNamed names) (sym c.push.ensures.items)
    (named_push names (is_ok c.push.result) c.args.texts.now.items c.in-Some.text
    (subst (Contains names) (sym c.in-Some.ensures) named) all)
