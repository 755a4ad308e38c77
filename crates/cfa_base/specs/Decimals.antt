-- A number in decimal, as policies write one: decimal digits without a sign, and without a leading zero.
use Rattle.std.specs.Prelude.{ℕ, Bool, ◌&&◌, ◌||◌, ◌==◌, not, nat_lt, List, length, slice_index}
use Rattle.std.specs.Str.{all_ascii_digits}

abbrev pub is_decimal : List ℕ → Bool
is_decimal text =
    nat_lt 0 (length text) && all_ascii_digits text && (not (slice_index text 0 == 48) || (length text == 1))
