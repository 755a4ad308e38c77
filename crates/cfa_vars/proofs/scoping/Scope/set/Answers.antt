use Rattle.std.specs.Rc.{rc_str_bytes}
use Rattle.cfa_vars.proofs.NamedLemmas.{put_seen}
use Rattle.cfa_vars.proofs.scoping.Scope.set.Goals as goal

pub returns-clause-ok : goal.returns-clause-ok
returns-clause-ok c =
    put_seen rc_str_bytes c.insert.new.self.entries c.self.inside.values.entries c.into_key.result c.args.value c.args.name c.args.self.now c.in_ok-_before.ensures.entries c.into_key.ensures c.self.view_is
