use Rattle.std.proofs.Common.{◌≡◌, ◌≤◌, length, true, false, ◌∙◌}
use Rattle.std.specs.Str.{bytes_eq}
use Rattle.std.specs.FinMap as map
use Rattle.cfa_base.specs.declared.limits.TheConstants.{MOST_FILE_BYTES}
use Rattle.cfa_outside.specs.Sites.{look_of}
use Rattle.cfa_acts.specs.Seeing.{has_size}
use Rattle.cfa_acts.proofs.Seen.{weaker, of_weaker, of_both, now}
use Rattle.cfa_acts.proofs.Decisions.{lacks_bytes, readable, has_read}
use Rattle.cfa_acts.proofs.files.holds_bytes.Goals as goal

pub returns-then-not-has_size : goal.returns-then-not-has_size
returns-then-not-has_size g c =
    weaker _ _ _ _ (λ w e.
    let other : has_size (length c.args.bytes.now) (look_of w c.args.path.now) ≡ false = cc in
    lacks_bytes c.args.bytes.now c.args.path.now w other) (now _ (g.S.Site.shown c.args.site.now) c.requires.look)

pub see_bytes-requires : goal.see_bytes-requires
see_bytes-requires g c =
    of_weaker (λ w. (length c.args.bytes.now ≤ MOST_FILE_BYTES) × (c.args.look ≡ look_of w c.args.path.now)) _ (g.S.Site.shown c.args.site.now)
    (λ w e.
    let e1 : c.args.look ≡ look_of w c.args.path.now = e.1 in
    let same : has_size (length c.args.bytes.now) (look_of w c.args.path.now) ≡ true = cc in
    readable (length c.args.bytes.now) c.args.path.now w e.0 same)
    (of_both _ _ (g.S.Site.shown c.args.site.now) c.requires.short c.requires.look)

pub returns : goal.returns
returns g c =
    weaker _ _ _ _ (λ w e.
    let same : c.eq.result ≡ bytes_eq c.in_ok-present.present c.args.bytes.now = cc in
    same ∙ has_read c.in_ok-present.present c.args.bytes.now (map.get w.nodes c.args.path.now) e) c.in_ok-present.ensures
