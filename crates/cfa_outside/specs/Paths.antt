-- A path begins with a slash and doesn't end with one. Its components are what stands between slashes, where a run of
-- slashes counts as one: each has 1 to 255 bytes, isn't `.` or `..`, and has no zero byte. The path is the components
-- with a slash before each, at most 1,024 bytes.
use Rattle.std.specs.Prelude.{ℕ, ◌-◌, List, [], ◌∷◌, ◌++◌, Bool, not, ◌&&◌, ◌==◌, nat_le, if◌then◌else◌, length, slice_index, filter, Option, Some, None}
use Rattle.std.specs.List.{list_all, slice_split}
use Rattle.std.specs.Str.{bytes_eq}

-- it begins with a slash and doesn't end with one
abbrev pub is_rooted : List ℕ → Bool
is_rooted text = not (length text == 0) && ((slice_index text 0 == 47) && not (slice_index text (length text - 1) == 47))

-- what stands between slashes and isn't empty
abbrev pub components : List ℕ → List (List ℕ)
components text = filter (λ part. not (length part == 0)) (slice_split (λ b. b == 47) text)

-- at most 255 bytes, not `.` or `..`, and no zero byte
abbrev pub is_component : List ℕ → Bool
is_component part =
    nat_le (length part) 255
    && (not (bytes_eq part (46 ∷ [])) && (not (bytes_eq part (46 ∷ 46 ∷ [])) && list_all (λ b. not (b == 0)) part))

-- the parts, with a slash before each
abbrev pub joined : List (List ℕ) → List ℕ
joined [] = []
joined (part ∷ parts) = 47 ∷ part ++ joined parts

-- the path that a text names; none where the text is no path
unfoldable pub path_of : List ℕ → Option (List ℕ)
path_of text =
    if (is_rooted text && list_all is_component (components text)) && nat_le (length (joined (components text))) 1024
    then Some (joined (components text))
    else None
