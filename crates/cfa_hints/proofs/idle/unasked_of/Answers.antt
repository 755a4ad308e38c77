use Rattle.cfa_hints.proofs.idle.unasked_of.Goals as goal

pub loop-class-preserved : goal.loop-class-preserved
loop-class-preserved c sources =
    c.keep.ensures sources c.args.uses.now c.args.defined.now (c.unasked_at.ensures sources c.args.defined.now) (c.loop-class.invariant sources)
