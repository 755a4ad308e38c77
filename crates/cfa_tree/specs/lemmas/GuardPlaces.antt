-- The guard at a place of a list of promises is that of the promise there.
use Rattle.std.proofs.Common.{◌≡◌, ℕ, ◌<◌, List, length, get_or, None, ap, sym, ◌∙◌}
use Rattle.std.proofs.lemmas.List.{get_or-map}
use Rattle.cfa_tree.specs.declared.promises.Promise.{Promise}
use Rattle.cfa_tree.specs.Repeats.{guard_at, guard_in}

pub guard_there : (promises : List Promise) (i : ℕ) (p : Promise) → i < length promises → p ≡ get_or promises i p → guard_at promises i ≡ p.guard
guard_there promises i p within is = get_or-map guard_in promises i p None within ∙ ap guard_in (sym is)
