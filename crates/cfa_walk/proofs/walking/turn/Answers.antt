use Rattle.std.proofs.Common.{sym}
use Rattle.cfa_frames.specs.Moves.{moved}
use Rattle.cfa_machine.specs.Stacks.{seen_stack}
use Rattle.cfa_walk.proofs.TurnLemmas.{advanced, counted_still, move_faults, move_goes}
use Rattle.cfa_walk.proofs.walking.turn.Goals as goal

pub returns-in-Nothing-clause-turned : goal.returns-in-Nothing-clause-turned
returns-in-Nothing-clause-turned g c =
    advanced g.T.Teller.teller g.T.Teller.agrees g.T.Teller.behind (c.args.teller.now, (c.args.site.now, c.args.out.now)) (g.met.T.Teller.steady (c.args.teller.now, (c.args.site.now, c.args.out.now))) c.moves_keep_what_is_left.ensures.moved c.moves_are_quiet.ensures.moved
    c.histories_only_grow.ensures.left c.args.machine.now c.advance.new.self (sym c.in-Nothing.ensures) c.advance.result c.advance.ensures.moved

pub returns-in-Nothing-clause-lighter : goal.returns-in-Nothing-clause-lighter
returns-in-Nothing-clause-lighter g c =
    move_goes c.args.machine.now c.advance.new.self (sym c.in-Nothing.ensures) c.moves_lower_the_weight.ensures.moved c.advance.result c.advance.ensures.moved

pub returns-in-Nothing-clause-faults : goal.returns-in-Nothing-clause-faults
returns-in-Nothing-clause-faults g c =
    let st = c.requires.stands in
    move_faults st.0 c.advance.new.self c.advance.result (moved st.0 (seen_stack c.args.machine.now) st.1.0)
    (g.T.Teller.faults (c.args.teller.now, (c.args.site.now, c.args.out.now))) (c.advance.ensures.moved st.0 st.1.0 st.1.1)

pub returns-in-Nothing-clause-counted : goal.returns-in-Nothing-clause-counted
returns-in-Nothing-clause-counted g c =
    counted_still (g.T.Teller.counts (c.args.teller.now, (c.args.site.now, c.args.out.now)) (c.args.teller.now, (c.args.site.now, c.args.out.now))) c.advance.result (g.T.Teller.counts_none (c.args.teller.now, (c.args.site.now, c.args.out.now)))
