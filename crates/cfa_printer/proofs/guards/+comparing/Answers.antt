use Rattle.cfa_printer.proofs.ExprTests.{other_than_and, other_than_or, and_parts_test, or_parts_test, other_length}
use Rattle.cfa_printer.proofs.guards.+comparing.Goals as goal

pub same_expr-returns-in-And-And : goal.same_expr-returns-in-And-And
same_expr-returns-in-And-And t c =
    and_parts_test _ _ _ _ _ _ _ c.in-And-And.is-0 c.in-And-And.is-1 c.as_slice.ensures.value c.as_slice-in-And-And.ensures.value c.same_exprs.ensures

pub same_expr-returns-in-Or-Or : goal.same_expr-returns-in-Or-Or
same_expr-returns-in-Or-Or t c =
    or_parts_test _ _ _ _ _ _ _ c.in-Or-Or.is-0 c.in-Or-Or.is-1 c.as_slice-in-Or-Or.ensures.value c.as_slice-in-Or-Or-2.ensures.value c.same_exprs-in-Or-Or.ensures

pub same_expr-returns-in_default-3 : goal.same_expr-returns-in_default-3
same_expr-returns-in_default-3 t c = other_than_and _ _ _ c.in_default.is-0 c.in_default.not-And-1

pub same_expr-returns-in_default-4 : goal.same_expr-returns-in_default-4
same_expr-returns-in_default-4 t c = other_than_or _ _ _ c.in_default.is-0 c.in_default.not-Or-1

pub same_exprs-returns-then-parts-others : goal.same_exprs-returns-then-parts-others
same_exprs-returns-then-parts-others t c = other_length _ _ c.if-parts-others.true
