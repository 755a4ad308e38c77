use Rattle.std.proofs.Common.{◌≡◌, Some, None, ap, ◌∙◌}
use Rattle.std.specs.FinMap as map
use Rattle.cfa_journal.specs.declared.records.Digest.TheVariants.{Sha}
use Rattle.cfa_outside.specs.Sites.{look_of}
use Rattle.cfa_agent.specs.Digesting.{digest_seen}
use Rattle.cfa_agent.proofs.Found.{weaker, both, at_end, seen_digest, seen_readable, read_digest}
use Rattle.cfa_agent.proofs.digesting.find_digest.Goals as goal

pub returns-in-Some-clause-found : goal.returns-in-Some-clause-found
returns-in-Some-clause-found g c =
    weaker _ _ _ _ (λ w e.
    let look : c.in_ok-look.look ≡ look_of w c.args.path.now = e in
    let seen : digest_seen (look_of w c.args.path.now) ≡ Some c.in-Some.found = cc in
    seen_digest c.args.path.now w c.in-Some.found seen) c.in_ok-look.ensures

pub find_bytes-requires : goal.find_bytes-requires
find_bytes-requires g c =
    at_end _ _ _ (g.S.Site.shown c.find_look.new.site) (λ w e.
    let look : c.in_ok-look.look ≡ look_of w c.args.path.now = e in
    let none : digest_seen (look_of w c.args.path.now) ≡ None = cc in
    seen_readable c.args.path.now w none) c.in_ok-look.ensures

pub returns-clause-found : goal.returns-clause-found
returns-clause-found g c =
    weaker _ _ _ _ (λ w e.
    let look : c.in_ok-look.look ≡ look_of w c.args.path.now = e.0 in
    let none : digest_seen (look_of w c.args.path.now) ≡ None = cc in
    c.in_ok-of.ensures
    ∙ ap Sha c.in_ok-digest.ensures
    ∙ read_digest c.in_ok-bytes.bytes (map.get w.nodes c.args.path.now) e.1 (seen_readable c.args.path.now w none))
    (both _ _ _ _ _ c.in_ok-look.ensures c.in_ok-bytes.ensures)
