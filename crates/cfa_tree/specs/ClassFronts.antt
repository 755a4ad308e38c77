-- Of the code alone: what stands at the front of some bytes of a class text: a blank, the longest token on the line, or neither.
use Rattle.std.specs.Prelude.{◌≡◌, ℕ, ◌≤◌, Bool, ◌||◌, ◌==◌, IsTrue, List, take, drop, length, Option, None, MatchOption}
use Rattle.std.specs.List.{list_all}
use Rattle.cfa_base.specs.declared.tokens.Kind.{Kind}
use Rattle.cfa_base.specs.declared.places.Place.{Place}
use Rattle.cfa_base.specs.Lexing.{Takes}
use Rattle.cfa_tree.specs.Guards.{GuardState}
use Rattle.cfa_tree.specs.ClassTexts.{stays_on_line, guard_by_bytes}

-- space or tab
abbrev pub is_blank : ℕ → Bool
is_blank b = (b == 32) || (b == 9)

-- the first n bytes are the longest token at the front, on one line
pub record IsFront (bytes : List ℕ) (kind : Kind) (n : ℕ) : Type 0 where
  pub within : n ≤ length bytes
  pub takes : Takes bytes kind (take n bytes) (drop n bytes)
  pub on_line : IsTrue (list_all stays_on_line (take n bytes))

-- no guard ends with these bytes, whatever stands before them
abbrev pub EndsNone : List ℕ → Type 0
EndsNone bytes = (place : Place) (g : GuardState) → guard_by_bytes place bytes g ≡ None

-- the kind of the longest token at the front and how many bytes it has; none where no guard goes on so
abbrev pub TellsFront : List ℕ → Option (Kind × ℕ) → Type 0
TellsFront bytes front = MatchOption front (EndsNone bytes) (λ t. IsFront bytes t.0 t.1)
