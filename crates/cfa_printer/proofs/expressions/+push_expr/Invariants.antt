use Rattle.std.proofs.Common.{◌≡◌, ◌++◌, drop, map}
use Rattle.std.specs.Prelude.{codes}
use Rattle.std.specs.String.{string_bytes}
use Rattle.cfa_base.specs.Joined.{joined}
use Rattle.cfa_tree.specs.Plain.{plain_expr}
use Rattle.cfa_printer.specs.declared.expressions.Around.TheVariants.{Or, And}
use Rattle.cfa_printer.specs.Printing.{printed_expr}
use Rattle.cfa_printer.proofs.Loops.{left}
use Rattle.cfa_printer.proofs.expressions.+push_expr.Given as goal

abbrev pub invariant-loop-i : goal.invariant-loop-i
invariant-loop-i l =
    string_bytes l.out ++ left l.i (codes ".") (map (λ e. printed_expr And (plain_expr e)) (drop l.i l.part-items))
    ≡ string_bytes l.initial.out ++ joined (codes ".") (map (λ e. printed_expr And (plain_expr e)) l.part-items)

abbrev pub invariant-loop-i-2 : goal.invariant-loop-i-2
invariant-loop-i-2 l =
    string_bytes l.out ++ left l.i (codes "|") (map (λ e. printed_expr Or (plain_expr e)) (drop l.i l.part-items))
    ≡ string_bytes l.initial.out ++ joined (codes "|") (map (λ e. printed_expr Or (plain_expr e)) l.part-items)
