use Rattle.std.proofs.Common.{◌≤◌, ℕ, sym, subst}
use Rattle.cfa_schema.specs.Seen.{tree_of}
use Rattle.cfa_resolve.proofs.MinuteLemmas.{minutes_small}
use Rattle.cfa_resolve.proofs.making.control_minutes.Goals as goal

pub short_minutes-requires : goal.short_minutes-requires
short_minutes-requires c = subst (λ (n : ℕ). n ≤ 525600) (sym c.minutes.ensures) (minutes_small (tree_of c.args.checked.now))
