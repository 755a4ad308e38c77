use Rattle.std.proofs.Common.{All, sym, subst}
use Rattle.std.proofs.lemmas.List.Elements.{All-take}
use Rattle.cfa_hints.specs.Findings.{IsTrueOf}
use Rattle.cfa_hints.proofs.idle.findings_of.Goals as goal

pub returns-clause-true_of : goal.returns-clause-true_of
returns-clause-true_of c =
    let s = c.args.sources.now in
    let u = c.args.uses.now in
    let d = c.args.defined.now in
    subst (All (IsTrueOf s u d)) (sym c.truncate.ensures.items) (All-take (IsTrueOf s u d) 20 _
    (c.add-3.ensures s u d (c.add-2.ensures s u d (c.add.ensures s u d (c.in_ok-found.ensures d)
    (subst (All (IsTrueOf s u d)) (sym c.as_slice.ensures.value) c.in_ok-unraised.ensures))
    (subst (All (IsTrueOf s u d)) (sym c.as_slice-2.ensures.value) (c.in_ok-uncalled.ensures d)))
    (subst (All (IsTrueOf s u d)) (sym c.as_slice-3.ensures.value) (c.in_ok-unasked.ensures s))))
