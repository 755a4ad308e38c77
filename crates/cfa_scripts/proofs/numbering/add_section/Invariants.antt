use Rattle.std.proofs.Common.{◌≡◌, ◌+◌, ◌++◌, drop, map}
use Rattle.cfa_tree.specs.Plain.{plain_promise}
use Rattle.cfa_scripts.specs.Numbered.{numbered_from}
use Rattle.cfa_scripts.specs.Walking.{seen_numbered}
use Rattle.cfa_scripts.proofs.numbering.add_section.Given as goal

-- the promises so far, and those left
abbrev pub invariant-loop-promise : goal.invariant-loop-promise
invariant-loop-promise l =
    (map seen_numbered l.promises.items
    ++ numbered_from l.bundle (l.number + 1) (map (λ p. (l.section.kind, p)) (map plain_promise (drop l.promise-index l.section.promises)))
    ≡ map seen_numbered l.fn.promises.items
    ++ numbered_from l.bundle (l.fn.before + 1) (map (λ p. (l.section.kind, p)) (map plain_promise l.section.promises)))
    × (l.number ≡ l.fn.before + l.promise-index)
