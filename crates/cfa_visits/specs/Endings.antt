-- Of the code alone: the classes that are raised for how an instance ended, or may end.
use Rattle.cfa_resolve.specs.declared.instances.Instance.{Instance}
use Rattle.cfa_statuses.specs.declared.levels.Status.{Status}
use Rattle.cfa_states.specs.declared.endings.Ending.{Ending}
use Rattle.cfa_states.specs.History.{History}
use Rattle.cfa_states.specs.Passes.{raise_lists}
use Rattle.cfa_states.specs.Tellers.{outcomes_in}

abbrev pub raise_ending : Instance → Ending → Status → History → History
raise_ending instance ending status h = raise_lists instance (outcomes_in ending) (outcomes_in ending) status h
