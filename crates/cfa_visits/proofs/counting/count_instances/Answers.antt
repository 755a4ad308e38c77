use Rattle.std.proofs.Common.{All, Option, Ok, refl, sym, subst}
use Rattle.cfa_schema.specs.Seen.{tree_of}
use Rattle.cfa_states.specs.declared.activations.Activation.{Activation}
use Rattle.cfa_states.specs.declared.remembering.Found.{Found}
use Rattle.std.specs.Prelude.{Err}
use Rattle.cfa_output.specs.declared.ends.Stop.{Stop}
use Rattle.cfa_states.specs.Kept.{RowHolds, scopes_now, seen_numbered}
use Rattle.cfa_states.specs.Levels.{PatternsAre}
use Rattle.cfa_visits.specs.Counting.{Counts, IsAt, instances_of}
use Rattle.cfa_visits.proofs.CountLemmas.{all_at, counted, counted_later, not_resolved, refusal_patterns, scopes_stand, waiting_later}
use Rattle.cfa_visits.specs.lemmas.Remembered.{resolution_found, row_later}
use Rattle.cfa_visits.proofs.counting.count_instances.Goals as goal

pub resolve_now-requires-clause-kept : goal.resolve_now-requires-clause-kept
resolve_now-requires-clause-kept g c =
    let policy = tree_of c.args.checked.now in
    let p = seen_numbered c.args.promise.now in
    let st = c.args.state.now in
    let a = c.args.activation.now in
    let waiting : Activation = record a { waits = c.in_ok-activation.field-0 } in
    subst (λ (x : Option Found). RowHolds policy p x st waiting) (sym c.take.ensures.value)
    (row_later policy p c.args.kept.now st st a waiting (waiting_later st a c.in_ok-activation.field-0) c.requires.kept)

pub returns-in_ok-keep_found-in-Ok-clause-counted : goal.returns-in_ok-keep_found-in-Ok-clause-counted
returns-in_ok-keep_found-in-Ok-clause-counted g c =
    let policy = tree_of c.args.checked.now in
    let p = seen_numbered c.args.promise.now in
    let st = c.args.state.now in
    let a = c.args.activation.now in
    let waiting : Activation = record a { waits = c.in_ok-activation.field-0 } in
    subst (λ (x : Option Found). Counts policy p c.args.guard st c.keep_found.new.state a waiting (Ok (instances_of x))) (sym c.keep_found.ensures.kept)
    (counted policy p (scopes_now st a) st.environment.statuses st a
    (scopes_stand st a) refl c.args.guard c.requires.set c.requires.acting c.in-Ok.resolved c.in_ok-activation.field-0 c.keep_found.new.state
    c.in-Ok.ensures.resolved c.in-Ok.ensures.within c.in_ok-activation.ensures c.in_ok-keep_found-in-Ok.ensures.state)

pub returns-in_ok-keep_found-in-Ok-clause-at : goal.returns-in_ok-keep_found-in-Ok-clause-at
returns-in_ok-keep_found-in-Ok-clause-at g c =
    subst (λ (x : Option Found). All (IsAt c.args.activation.now.path) (instances_of x)) (sym c.keep_found.ensures.kept)
    (all_at (tree_of c.args.checked.now) (seen_numbered c.args.promise.now) (scopes_now c.args.state.now c.args.activation.now) c.args.state.now.environment.statuses
    c.args.activation.now.path c.in-Ok.resolved c.in-Ok.ensures.resolved c.requires.id c.instances_are_named.ensures)

pub returns-in_ok-keep_found-in-Ok-clause-later : goal.returns-in_ok-keep_found-in-Ok-clause-later
returns-in_ok-keep_found-in-Ok-clause-later g c =
    counted_later c.args.state.now c.keep_found.new.state c.args.activation.now c.in_ok-activation.field-0 c.in-Ok.resolved c.in_ok-keep_found-in-Ok.ensures.state

pub returns-in_ok-keep_found-in-Ok-clause-holds : goal.returns-in_ok-keep_found-in-Ok-clause-holds
returns-in_ok-keep_found-in-Ok-clause-holds g c =
    let policy = tree_of c.args.checked.now in
    let p = seen_numbered c.args.promise.now in
    let st = c.args.state.now in
    let a = c.args.activation.now in
    let waiting : Activation = record a { waits = c.in_ok-activation.field-0 } in
    subst (λ (x : Option Found). RowHolds policy p x c.keep_found.new.state waiting) (sym c.keep_found.ensures.kept)
    (resolution_found policy p _ st c.keep_found.new.state a _
    (counted_later st c.keep_found.new.state a c.in_ok-activation.field-0 c.in-Ok.resolved c.in_ok-keep_found-in-Ok.ensures.state) c.moment_of-moment.ensures c.in-Ok.ensures.resolved)

pub returns-in-Err-clause-counted : goal.returns-in-Err-clause-counted
returns-in-Err-clause-counted g c =
    let policy = tree_of c.args.checked.now in
    let p = seen_numbered c.args.promise.now in
    let st = c.args.state.now in
    let a = c.args.activation.now in
    let waiting : Activation = record a { waits = c.in_ok-activation.field-0 } in
    subst (λ (stop : Stop). Counts policy p c.args.guard st st a waiting (Err stop)) (sym c.stop_of.ensures)
    (not_resolved policy p (scopes_now st a) st.environment.statuses st a
    (scopes_stand st a) refl c.args.guard c.requires.set c.in-Err.error st waiting (g.P.Patterns.shown c.args.pats.now) (g.P.Patterns.shown c.resolve_now.new.pats)
    c.in-Err.ensures.too_large c.in-Err.ensures.sizes)

pub returns-in-Err-clause-patterns : goal.returns-in-Err-clause-patterns
returns-in-Err-clause-patterns g c =
    let was = g.P.Patterns.shown c.args.pats.now in
    let is = g.P.Patterns.shown c.resolve_now.new.pats in
    subst (λ (stop : Stop). PatternsAre (Err stop) was is) (sym c.stop_of.ensures)
    (refusal_patterns _ c.in-Err.error was is c.in-Err.ensures.sizes)
