use Rattle.cfa_hints.proofs.idle.unraised_of.Goals as goal

pub loop-mention-preserved : goal.loop-mention-preserved
loop-mention-preserved c =
    c.keep.ensures c.args.sources.now c.args.uses.now c.args.defined.now c.in_ok-finding.ensures c.loop-mention.invariant
