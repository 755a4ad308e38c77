use Rattle.std.proofs.Common.{◌≡◌, ◌+◌, ◌++◌, drop, map}
use Rattle.cfa_states.specs.Numbered.{numbered_from}
use Rattle.cfa_states.specs.Kept.{GuardsRepeat, seen_numbered}
use Rattle.cfa_scripts.specs.lemmas.Numbering.{worded}
use Rattle.cfa_states.proofs.NumberedLemmas.{LastStands}
use Rattle.cfa_states.proofs.numbered.add_section.Given as goal

-- the promises so far, and those of the section that are left
abbrev pub invariant-loop-index : goal.invariant-loop-index
invariant-loop-index l =
    (map seen_numbered l.promises.items ++ numbered_from l.bundle (l.number + 1) (worded l.section.kind (drop l.index l.promise-items))
    ≡ map seen_numbered l.fn.promises.items ++ numbered_from l.bundle (l.before + 1) (worded l.section.kind l.section.promises))
    × ((l.number ≡ l.before + l.index)
    × ((GuardsRepeat l.fn.promises.items → GuardsRepeat l.promises.items) × LastStands l.promise-items l.found l.index l.promises.items))
