use Rattle.std.proofs.Common.{refl, sym, subst}
use Rattle.std.specs.Prelude.{Err}
use Rattle.cfa_states.specs.declared.walks.Walk.{Walk}
use Rattle.cfa_walk.specs.declared.listing.WalkErr.{WalkErr}
use Rattle.cfa_walk.specs.Listed.{IsRefused, WalkPatterns}
use Rattle.cfa_walk.specs.Settings.{setting_of}
use Rattle.cfa_walk.proofs.ListingLemmas.{agrees, behind, has_walked, not_taken, refused_by, refused_patterns, taken_patterns}
use Rattle.cfa_walk.proofs.listing.walk.Goals as goal

pub make_run-requires-clause-stands : goal.make_run-requires-clause-stands
make_run-requires-clause-stands g c = (setting_of c.args.checked.now c.args.context.now, c.in_ok-machine.ensures.begins.stands)

pub returns-in-Ok-clause-walked : goal.returns-in-Ok-clause-walked
returns-in-Ok-clause-walked g c =
    let s = setting_of c.args.checked.now c.args.context.now in
    let begins = c.in_ok-machine.ensures.begins in
    has_walked agrees behind s c.args.telling (c.args.telling, (tt, tt)) (c.make_run.new.teller, (tt, tt)) c.make_run.new.teller
    refl (λ same. sym same) tt c.make_run.new.machine.state c.take_walk-walked.result (c.in-Ok.ensures.ran s begins.stands begins.stack) c.take_walk-walked.ensures.walked

pub returns-in-Ok-clause-refused : goal.returns-in-Ok-clause-refused
returns-in-Ok-clause-refused g c =
    not_taken (setting_of c.args.checked.now c.args.context.now) c.args.telling c.take_walk-walked.result c.take_walk-walked.ensures.refused

pub returns-in-Ok-clause-patterns : goal.returns-in-Ok-clause-patterns
returns-in-Ok-clause-patterns g c =
    taken_patterns c.take_walk-walked.result (g.P.Patterns.shown c.args.pats.now) (g.P.Patterns.shown c.make_run.new.pats) c.take_walk-walked.ensures.refused c.in-Ok.ensures.patterns

pub returns-in-Err-clause-refused : goal.returns-in-Err-clause-refused
returns-in-Err-clause-refused g c =
    let s = setting_of c.args.checked.now c.args.context.now in
    let begins = c.in_ok-machine.ensures.begins in
    subst (λ (refusal : WalkErr). IsRefused s c.args.telling refusal) (sym c.refusal_of.ensures)
    (refused_by agrees behind s c.args.telling (c.args.telling, (tt, tt)) (c.make_run.new.teller, (tt, tt)) c.make_run.new.teller
    refl (λ same. sym same) tt c.in-Err.stop (c.in-Err.ensures.ran s begins.stands begins.stack))

pub returns-in-Err-clause-patterns : goal.returns-in-Err-clause-patterns
returns-in-Err-clause-patterns g c =
    let was = g.P.Patterns.shown c.args.pats.now in
    let is = g.P.Patterns.shown c.make_run.new.pats in
    subst (λ (refusal : WalkErr). WalkPatterns {X = Walk} (Err refusal) was is) (sym c.refusal_of.ensures)
    (refused_patterns c.in-Err.stop was is c.in-Err.ensures.patterns)
