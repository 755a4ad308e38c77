use Rattle.std.proofs.Common.{◌≡◌, cond, Some, None, ap, ◌∙◌}
use Rattle.std.specs.FinMap as map
use Rattle.cfa_outside.specs.Sites.{look_of}
use Rattle.cfa_outside.specs.declared.sites.Look.{Look}
use Rattle.cfa_acts.specs.declared.acts.Decision.TheVariants.{Kept}
use Rattle.cfa_acts.specs.Acts.{puts_file, has_bytes}
use Rattle.cfa_acts.specs.Seeing.{copy_refusal}
use Rattle.cfa_acts.proofs.Seen.{weaker, both, at_end, seen_then}
use Rattle.cfa_acts.proofs.Decisions.{copy_refused, copy_readable, read_short, copy_decided}
use Rattle.cfa_acts.proofs.files.decide_copy.Goals as goal

pub returns-in-Some-clause-seen : goal.returns-in-Some-clause-seen
returns-in-Some-clause-seen g c =
    weaker _ _ _ _ (λ w e.
    let source : c.in_ok-source_look.source_look ≡ look_of w c.args.source.now = e.0 in
    let target : c.in_ok-look.look ≡ look_of w c.args.path.now = e.1 in
    let refused : copy_refusal (look_of w c.args.source.now) (look_of w c.args.path.now) ≡ Some c.in-Some.reason = cc in
    copy_refused c.args.source.now c.args.path.now c.in-Some.reason w refused)
    (both _ _ _ _ _ c.in_ok-source_look.ensures c.in_ok-look.ensures)

pub see_bytes-requires : goal.see_bytes-requires
see_bytes-requires g c =
    at_end _ _ _ (g.S.Site.shown c.see_look-2.new.site) (λ w e.
    let source : c.in_ok-source_look.source_look ≡ look_of w c.args.source.now = e.0 in
    let free : copy_refusal (look_of w c.args.source.now) c.in_ok-look.look ≡ None = cc in
    copy_readable c.args.source.now c.in_ok-look.look w free)
    (both _ _ _ _ _ c.in_ok-source_look.ensures c.in_ok-look.ensures)

pub put_missing-requires-clause-short : goal.put_missing-requires-clause-short
put_missing-requires-clause-short g c =
    at_end _ _ _ (g.S.Site.shown c.see_bytes.new.site) (λ w e.
    let source : c.in_ok-source_look.source_look ≡ look_of w c.args.source.now = e.0.0 in
    let free : copy_refusal (look_of w c.args.source.now) c.in_ok-look.look ≡ None = cc in
    read_short c.in_ok-bytes.bytes (map.get w.nodes c.args.source.now) e.1 (copy_readable c.args.source.now c.in_ok-look.look w free))
    (both _ _ _ _ _ (both _ _ _ _ _ c.in_ok-source_look.ensures c.in_ok-look.ensures) c.in_ok-bytes.ensures)

pub put_missing-requires-clause-look : goal.put_missing-requires-clause-look
put_missing-requires-clause-look g c =
    at_end _ _ _ (g.S.Site.shown c.see_bytes.new.site) (λ w e. e.0.1)
    (both _ _ _ _ _ (both _ _ _ _ _ c.in_ok-source_look.ensures c.in_ok-look.ensures) c.in_ok-bytes.ensures)

pub returns-clause-seen : goal.returns-clause-seen
returns-clause-seen g c =
    seen_then _ _ _ _ _ _ c.put_missing.result (λ d w e put.
    let source : c.in_ok-source_look.source_look ≡ look_of w c.args.source.now = e.0.0 in
    let target : c.in_ok-look.look ≡ look_of w c.args.path.now = e.0.1 in
    let free : copy_refusal (look_of w c.args.source.now) (look_of w c.args.path.now) ≡ None = cc in
    put
    ∙ ap (λ (look : Look). cond (has_bytes c.in_ok-bytes.bytes (map.get w.nodes c.args.path.now)) Kept (puts_file c.args.path.now c.in_ok-bytes.bytes look)) target
    ∙ copy_decided c.args.source.now c.args.path.now c.in_ok-bytes.bytes w e.1 free)
    (both _ _ _ _ _ (both _ _ _ _ _ c.in_ok-source_look.ensures c.in_ok-look.ensures) c.in_ok-bytes.ensures) c.put_missing.ensures.seen
