use Rattle.cfa_hints.proofs.idle.unset_of.Goals as goal

pub loop-mention-preserved : goal.loop-mention-preserved
loop-mention-preserved c defined =
    c.keep.ensures c.args.sources.now c.args.uses.now defined (c.in_ok-finding.ensures defined) (c.loop-mention.invariant defined)
