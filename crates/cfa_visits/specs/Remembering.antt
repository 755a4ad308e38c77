-- Of the code alone: what is known of the guard of the promise before the one at a place.
use Rattle.std.specs.Prelude.{◌<◌, ◌-◌, ℕ, List, IfSome, get_or, Option}
use Rattle.cfa_states.specs.declared.activations.Activation.{Activation}
use Rattle.cfa_states.specs.declared.numbered.Numbered.{Numbered as Held}
use Rattle.cfa_states.specs.declared.remembering.Known.{Known}
use Rattle.cfa_states.specs.declared.states.State.{State}
use Rattle.cfa_states.specs.Kept.{GuardHolds, seen_numbered}

abbrev pub BeforeHolds : List Held → (place : ℕ) → Option Known → State → Activation → Type 0
BeforeHolds ps i before st a = IfSome before (λ known. (0 < i) × ((p : Held) → GuardHolds (seen_numbered (get_or ps (i - 1) p)) known st a))
