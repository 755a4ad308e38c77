-- The parser's walk over a command line, word by word.
use Rattle.std.proofs.Common.{◌≡◌, ◌∙◌, ◌∷◌, [], List, ℕ, Bool, Option, None, false, refl, sym, ap}
use Rattle.std.specs.List.{fold}
use Rattle.clap.specs.Walk.{Held, Row, Rule, Text, Waiting, Walk, finished, idle, settled, walked}
use Rattle.clap.specs.Simple.{Shape, built}
use Rattle.clap.specs.Kinds.{Kinds, or_else}
use Rattle.clap.specs.Faults.{check_fault, defaults_fault, settle_fault, turn_fault, walk_fault}
use Rattle.cfa_words.specs.OfTheCode.{command_line}

abbrev pub shape : Shape
shape = (built command_line).top

abbrev pub rules : List Rule
rules = shape.rules

abbrev pub held : List Row → Option (Text × List Text) → Held
held rows pending = record { rows = rows; pending = pending; skip = 0 }

abbrev pub at : List Row → Option (Text × List Text) → Waiting → ℕ → Bool → Walk
at rows pending waiting position trailing =
    record { held = held rows pending; waiting = waiting; position = position; is_trailing = trailing; stopped = None }

abbrev pub end_fault : Held → Kinds
end_fault h = or_else (settle_fault rules false h)
    (or_else (defaults_fault (settled rules h).rows rules) (check_fault shape (finished rules h) false))

-- the faults from a place on, and the rows at the end
abbrev pub run : Walk → List Text → Kinds × List Row
run w [] = (end_fault w.held, finished rules w.held)
run w (word ∷ rest) = (or_else (turn_fault shape [] w word) (run (walked rules [] w word) rest).0, (run (walked rules [] w word) rest).1)

pub or_else-assoc : (a b c : Kinds) → or_else (or_else a b) c ≡ or_else a (or_else b c)
or_else-assoc [] b c = refl
or_else-assoc (k ∷ ks) b c = refl

pub run-faults : (w : Walk) (words : List Text) → (run w words).0 ≡ or_else (walk_fault shape [] w words) (end_fault (fold (walked rules []) w words).held)
unfolding walk_fault
run-faults w [] = refl
run-faults w (word ∷ rest) =
    ap (or_else (turn_fault shape [] w word)) (run-faults (walked rules [] w word) rest)
    ∙ sym (or_else-assoc (turn_fault shape [] w word) (walk_fault shape [] (walked rules [] w word) rest) (end_fault (fold (walked rules []) (walked rules [] w word) rest).held))

pub run-rows : (w : Walk) (words : List Text) → (run w words).1 ≡ finished rules (fold (walked rules []) w words).held
run-rows w [] = refl
run-rows w (word ∷ rest) = run-rows (walked rules [] w word) rest

abbrev pub start : Walk
start = at [] None idle 1 false
