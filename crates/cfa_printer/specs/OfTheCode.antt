-- Of the code alone: what is added at the end of a text, guards as trees, and the line above a promise of a section.
use Rattle.std.specs.Prelude.{◌≡◌, ◌++◌, ℕ, List, Option, option_map, option_copied}
use Rattle.std.specs.String.{string_bytes}
use Rattle.std.specs.declared.string.String.{String}
use Rattle.std.specs.declared.alloc.Global.{Global}
use denote.Ref.{Bor}
use Rattle.cfa_tree.specs.declared.expressions.Expr.{Expr}
use Rattle.cfa_tree.specs.declared.promises.Promise.{Promise}
use Rattle.cfa_tree.specs.Plain.{plain_expr}
use Rattle.cfa_tree.specs.Tree.{ExprTree}
use Rattle.cfa_tree.specs.Repeats.{guard_at, guard_before}
use Rattle.cfa_printer.specs.Printing.{guard_line}

-- What is added at the end of a text.

-- the new text is the old one with these bytes behind it
abbrev pub Appends : (old new : String Global) → List ℕ → Type 0
Appends old new bytes = string_bytes new ≡ string_bytes old ++ bytes

-- Guards as trees, and the line above a promise of a section.

-- the tree of a guard that is lent
abbrev pub guard_tree : Option (Bor Expr) → Option ExprTree
guard_tree guard = option_map plain_expr (option_copied guard)

abbrev pub line_above : List Promise → ℕ → List ℕ
line_above promises i = guard_line (option_map plain_expr (guard_before promises i)) (option_map plain_expr (guard_at promises i))
