-- Of the code alone: the table of an index answers the place of each name or pair of its list.
use Rattle.std.specs.Prelude.{◌≡◌, ℕ, Bool, List, Option, Some, None, map, if◌then◌else◌}
use Rattle.std.specs.Option.{option_or}
use Rattle.std.specs.Str.{bytes_eq}
use Rattle.std.specs.HashMap.{HashMap, get_by}
use denote.Ref.{Bor}
use Rattle.cfa_base.specs.Index.{Text, place_of, same_pair, pair_place_of}

-- a key without a place got this one, and all else is as it was
abbrev pub Notes :
    {Key : Type 0} → (Key → Key → Bool) → (before after : Key → Option ℕ) → Key → ℕ → Type 0
Notes {Key} same before after key place =
    (other : Key) → after other ≡ option_or (before other) (if same other key then Some place else None)

abbrev pub texts_of : List (Bor Text) → List Text
texts_of names = map (λ name. name.now) names

-- what a table of places answers
abbrev pub noted : {S : Type 0} → HashMap (Bor Text) ℕ S → Text → Option ℕ
noted places name = get_by (λ key. bytes_eq name key.now) places

abbrev pub Answers : {S : Type 0} → List (Bor Text) → HashMap (Bor Text) ℕ S → Type 0
Answers names places = (name : Text) → noted places name ≡ place_of (texts_of names) name

abbrev pub NotesName : {S : Type 0} → (before after : HashMap (Bor Text) ℕ S) → Text → ℕ → Type 0
NotesName before after name place = Notes bytes_eq (noted before) (noted after) name place

-- the same of pairs
abbrev pub pair_of : Bor Text × Bor Text → Text × Text
pair_of pair = (pair.0.now, pair.1.now)

abbrev pub pairs_of : List (Bor Text × Bor Text) → List (Text × Text)
pairs_of pairs = map pair_of pairs

abbrev pub pair_noted : {S : Type 0} → HashMap (Bor Text × Bor Text) ℕ S → Text × Text → Option ℕ
pair_noted places pair = get_by (λ key. same_pair pair (pair_of key)) places

abbrev pub AnswersPairs : {S : Type 0} → List (Bor Text × Bor Text) → HashMap (Bor Text × Bor Text) ℕ S → Type 0
AnswersPairs pairs places = (pair : Text × Text) → pair_noted places pair ≡ pair_place_of (pairs_of pairs) pair

abbrev pub NotesPair :
    {S : Type 0} → (before after : HashMap (Bor Text × Bor Text) ℕ S) → Text × Text → ℕ → Type 0
NotesPair before after pair place = Notes same_pair (pair_noted before) (pair_noted after) pair place
