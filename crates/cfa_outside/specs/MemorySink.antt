-- What a sink in memory shows of itself, and when a put fails: of a piece that isn't empty exactly where its number is
-- listed or no byte is free. Else it takes what fits.
use Rattle.std.specs.Prelude.{ℕ, length, List, Some, Bool, ◌||◌, ◌&&◌, nat_le, nat_lt}
use Rattle.cfa_base.specs.Shown.{Shown}
use Rattle.cfa_outside.specs.declared.memory_sink.MemorySink.{MemorySink}
use Rattle.cfa_outside.specs.Turns.{Numbering, is_next_listed}

abbrev pub bytes_of : MemorySink → List ℕ
bytes_of sink = sink.bytes.items

-- how many bytes it can hold in all
abbrev pub space_of : MemorySink → ℕ
space_of sink = sink.space

-- the puts so far
abbrev pub turns_of : MemorySink → Numbering
turns_of sink = sink.turns

abbrev pub shown_of : MemorySink → Shown (List ℕ)
shown_of sink = record { told = Some (bytes_of sink); faults = sink.turns.faults }

-- the next put is of a piece that isn't empty, and its number is listed or no byte is free
abbrev pub fails_next : MemorySink → ℕ → Bool
fails_next sink size =
    nat_lt 0 size && (is_next_listed (turns_of sink) || nat_le (space_of sink) (length (bytes_of sink)))
