-- The functions and what they take: a text or a list at each place, and whether they answer a class or a text.
use Rattle.std.specs.Prelude.{ℕ, Bool, true, false, ◌==◌, List, codes, Option, Some, None, if◌then◌else◌}
use Rattle.std.specs.Str.{bytes_eq}
use Rattle.cfa_kinds.specs.declared.functions.TextFunction.TheVariants.{Canonify, Concat, Join, Length, Nth}
use Rattle.cfa_kinds.specs.declared.functions.ClassFunction.TheVariants.{Strcmp, Regcmp, IsVariable}
use Rattle.cfa_kinds.specs.declared.functions.Function.{Function}
use Rattle.cfa_kinds.specs.declared.functions.Function.TheVariants.{OfText, OfClass}

unfoldable pub function_named : List ℕ → Option Function
function_named name =
    if bytes_eq name (codes "canonify") then Some (OfText Canonify) else (
    if bytes_eq name (codes "concat") then Some (OfText Concat) else (
    if bytes_eq name (codes "join") then Some (OfText Join) else (
    if bytes_eq name (codes "length") then Some (OfText Length) else (
    if bytes_eq name (codes "nth") then Some (OfText Nth) else (
    if bytes_eq name (codes "strcmp") then Some (OfClass Strcmp) else (
    if bytes_eq name (codes "regcmp") then Some (OfClass Regcmp) else (
    if bytes_eq name (codes "isvariable") then Some (OfClass IsVariable) else None)))))))

abbrev pub answers_class : Function → Bool
answers_class (OfText f) = false
answers_class (OfClass f) = true

-- `concat` takes any number of arguments
abbrev pub takes_count : Function → ℕ → Bool
takes_count (OfText Canonify) count = count == 1
takes_count (OfText Concat) count = true
takes_count (OfText Join) count = count == 2
takes_count (OfText Length) count = count == 1
takes_count (OfText Nth) count = count == 2
takes_count (OfClass Strcmp) count = count == 2
takes_count (OfClass Regcmp) count = count == 2
takes_count (OfClass IsVariable) count = count == 1

-- whether a list is taken at a place, from 0
abbrev pub takes_list : Function → ℕ → Bool
takes_list (OfText Canonify) place = false
takes_list (OfText Concat) place = false
takes_list (OfText Join) place = place == 1
takes_list (OfText Length) place = place == 0
takes_list (OfText Nth) place = place == 0
takes_list (OfClass f) place = false
