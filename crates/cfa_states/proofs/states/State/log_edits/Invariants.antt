use Rattle.std.proofs.Common.{◌≡◌, take}
use Rattle.std.specs.List.{filter_map}
use Rattle.cfa_outcomes.specs.Environments.{source_of}
use Rattle.cfa_states.specs.Logs.{logged_blames}
use Rattle.cfa_states.specs.Walks.{blame_edit}
use Rattle.cfa_states.proofs.states.State.log_edits.Given as goal

-- the promises so far were noted
abbrev pub invariant-loop-one : goal.invariant-loop-one
invariant-loop-one l =
    l.self ≡ record l.fn.self { log = logged_blames (filter_map (blame_edit (source_of l.fn.self.environment)) (take l.one-index l.unsettled)) l.fn.self.log }
