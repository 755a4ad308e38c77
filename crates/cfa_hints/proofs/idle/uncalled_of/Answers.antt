use Rattle.cfa_hints.proofs.idle.uncalled_of.Goals as goal

pub loop-bundle-preserved : goal.loop-bundle-preserved
loop-bundle-preserved c defined =
    c.keep.ensures c.args.sources.now c.args.uses.now defined (c.in_ok-finding.ensures defined) (c.loop-bundle.invariant defined)
