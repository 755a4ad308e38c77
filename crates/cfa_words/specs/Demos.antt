-- Which demo a command line asks for. `demo` takes the number of its promises, in decimal from 1 to 10000 without leading zeros, and
-- neither flags nor classes.
use Rattle.std.specs.Prelude.{ℕ, Bool, ◌&&◌, ◌||◌, nat_le, List, [], ◌∷◌, Option, Some, None, codes, if◌then◌else◌, is_some, option_and_then}
use Rattle.std.specs.Str.{bytes_eq}
use Rattle.std.specs.Str.Parse.{digits_value}
use Rattle.cfa_base.specs.Decimals.{is_decimal}
use Rattle.cfa_base.specs.Index.{Text}
use Rattle.cfa_words.specs.Words.{Given, given}

abbrev pub is_demo_number : Text → Bool
is_demo_number text = is_decimal text && (nat_le 1 (digits_value 10 text) && nat_le (digits_value 10 text) 10000)

abbrev pub demo_number : Text → Option ℕ
demo_number text = if is_demo_number text then Some (digits_value 10 text) else None

abbrev pub demo_with : Text → Given → Option ℕ
demo_with number g = if g.no_lock || (g.strict || is_some g.classes) then None else demo_number number

abbrev pub demo_given : List Text → Given → Option ℕ
demo_given (command ∷ argument ∷ []) g = if bytes_eq command (codes "demo") then demo_with argument g else None
demo_given _ g = None

-- the number of promises of the demo that the words ask for, or `None` where they ask for something else or are refused
abbrev pub demo_asked : List Text → Option ℕ
demo_asked words = option_and_then (λ (g : Given). demo_given g.words g) (given words)
