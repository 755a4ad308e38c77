-- What inputs in memory show of themselves, and when a reading fails: exactly where its number is listed or no text has
-- the name.
use Rattle.std.specs.Prelude.{ℕ, List, Some, Bool, ◌||◌, is_none}
use Rattle.cfa_base.specs.Shown.{Shown}
use Rattle.cfa_outside.specs.declared.memory_inputs.MemoryInputs.{MemoryInputs}
use Rattle.cfa_outside.specs.Inputs.{Library, text_of}
use Rattle.cfa_outside.specs.Turns.{Numbering, is_next_listed}

abbrev pub texts_of : MemoryInputs → List (List ℕ × List ℕ)
texts_of inputs = inputs.texts.items

-- the names whose reading failed, in order
abbrev pub failed_names : MemoryInputs → List (List ℕ)
failed_names inputs = inputs.failed

-- the readings so far
abbrev pub turns_of : MemoryInputs → Numbering
turns_of inputs = inputs.turns

abbrev pub shown_of : MemoryInputs → Shown Library
shown_of inputs =
    record { told = Some (record { texts = texts_of inputs; failed = failed_names inputs }); faults = inputs.turns.faults }

-- the next reading's number is listed, or no text has the name
abbrev pub fails_next : MemoryInputs → List ℕ → Bool
fails_next inputs name = is_next_listed (turns_of inputs) || is_none (text_of (texts_of inputs) name)
