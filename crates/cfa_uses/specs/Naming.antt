-- Names that a policy sets, raises and asks for, each listed once, and what a text with references may come to: it begins
-- and ends with what stands before its first reference and behind its last one.
use Rattle.std.specs.Prelude.{Bool, ◌&&◌, ◌||◌, ◌==◌, if◌then◌else◌, List, [], ◌∷◌, ◌++◌}
use Rattle.std.specs.List.{list_any, starts_with, ends_with}
use Rattle.cfa_base.specs.Index.{Text, is_listed, same_pair}
use Rattle.cfa_uses.specs.declared.uses.Frame.{Frame}

-- a list with a name that stands in it once
abbrev pub with_name : List Text → Text → List Text
with_name names name = if is_listed names name then names else names ++ name ∷ []

-- the same of pairs
abbrev pub is_pair_listed : List (Text × Text) → Text × Text → Bool
is_pair_listed pairs pair = list_any (same_pair pair) pairs

abbrev pub with_pair : List (Text × Text) → Text × Text → List (Text × Text)
with_pair pairs pair = if is_pair_listed pairs pair then pairs else pairs ++ pair ∷ []

-- a name that begins and ends as a frame does
abbrev pub fits : Text → Frame → Bool
fits name frame = starts_with (λ a b. a == b) name frame.front.now && ends_with (λ a b. a == b) name frame.back.now

-- a name that may come from a value: as one, from a text with references, or by a function that makes names
abbrev pub may_be_made : (makes_names : Bool) (values : List Text) (frames : List Frame) (name : Text) → Bool
may_be_made makes_names values frames name =
    makes_names || (is_listed values name || list_any (fits name) frames)
