-- What the references of a text may name. In a bundle a name is a word, which is a variable of the bundle, or a bundle and a
-- word; in a body a word is one of its parameters. The bundle is the own one, one that is shared, or `const`.
use Rattle.std.specs.Prelude.{ℕ, Bool, true, false, ◌||◌, ◌==◌, not, List, [], ◌∷◌, codes, Option, Some, None, if◌then◌else◌}
use Rattle.std.specs.List.{list_any}
use Rattle.std.specs.Str.{bytes_eq}
use Rattle.cfa_vars.specs.References.{is_qualified, bundle_part, word_part, Piece, literal, reference, pieces, names_in, list_reference_of}
use Rattle.cfa_values.specs.Definitions.{is_one_of, is_shared}

-- the constants are `const.n`, `const.t` and `const.dollar`
unfoldable pub is_constant : List ℕ → Bool
is_constant word = bytes_eq word (codes "n") || (bytes_eq word (codes "t") || bytes_eq word (codes "dollar"))

-- where a text stands: in a bundle with its name, or in a body with its parameters
pub data Where : Type 0 where
  in_bundle : (own : List ℕ) → Where
  in_body : (params : List (List ℕ)) → Where

-- whether a word may be referred to
abbrev pub admits_word : Where → List ℕ → Bool
admits_word (in_bundle own) word = true
admits_word (in_body params) word = is_one_of word params

abbrev pub is_own : Where → List ℕ → Bool
is_own (in_bundle own) bundle = bytes_eq bundle own
is_own (in_body params) bundle = false

-- whether the variables of a bundle may be referred to; which bundles are shared is told by a test
abbrev pub admits_bundle : (List ℕ → Bool) → Where → List ℕ → Bool
admits_bundle is_shared place bundle = is_own place bundle || is_shared bundle

-- whether a name may be referred to
abbrev pub admits : (List ℕ → Bool) → Where → List ℕ → Bool
admits is_shared place name =
    if is_qualified name then (
    if bytes_eq (bundle_part name) (codes "const") then is_constant (word_part name)
    else admits_bundle is_shared place (bundle_part name))
    else admits_word place name

-- `(` or `{`
abbrev pub is_bracket : ℕ → Bool
is_bracket b = (b == 40) || (b == 123)

abbrev pub begins_with_bracket : List Piece → Bool
begins_with_bracket [] = false
begins_with_bracket (literal b ∷ rest) = is_bracket b
begins_with_bracket (reference name ∷ rest) = false

-- a `$` with a bracket behind it that is no reference
abbrev pub has_broken_reference : List Piece → Bool
has_broken_reference [] = false
has_broken_reference (literal b ∷ rest) = (if b == 36 then begins_with_bracket rest else false) || has_broken_reference rest
has_broken_reference (reference name ∷ rest) = has_broken_reference rest

-- the names that a text refers to: that of the list, where it is wholly a list reference, else those of its references
abbrev pub names_or_list : Option (List ℕ) → List ℕ → List (List ℕ)
names_or_list None text = names_in text
names_or_list (Some name) text = name ∷ []

unfoldable pub names_referred : List ℕ → List (List ℕ)
names_referred text = names_or_list (list_reference_of text) text

-- a text has a reference that is broken, or that names what may not be referred to; which names may be is told by a test
unfoldable pub refers_out : (List ℕ → Bool) → List ℕ → Bool
refers_out admitted text =
    has_broken_reference (pieces text) || list_any (λ name. not (admitted name)) (names_referred text)

-- a text without references is known before the run
abbrev pub is_empty_list : List (List ℕ) → Bool
is_empty_list [] = true
is_empty_list (name ∷ names) = false

unfoldable pub is_literal : List ℕ → Bool
is_literal text = is_empty_list (names_in text)
