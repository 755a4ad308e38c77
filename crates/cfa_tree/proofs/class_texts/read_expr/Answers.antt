use Rattle.std.proofs.Common.{◌≡◌, ℕ, List, sym, ap, ◌∙◌, subst}
use Rattle.std.specs.Prelude.{IfOk, Some}
use Rattle.std.proofs.lemmas.Result.{IfOk-weaker}
use Rattle.cfa_tree.specs.ClassTexts.{IsExpression, expression_of}
use Rattle.cfa_tree.specs.Plain.{plain_expr}
use Rattle.cfa_tree.proofs.ClassTextLaws.{computed_are_expressions, none_computed}
use Rattle.cfa_tree.proofs.class_texts.read_expr.Goals as goal

pub returns-clause-reads : goal.returns-clause-reads
returns-clause-reads c =
    let value = subst (λ (x : List ℕ). IfOk c.read_text.result (λ e. expression_of x ≡ Some (plain_expr e))) c.as_str.ensures c.read_text.ensures.value in
    IfOk-weaker c.read_text.result (λ e. expression_of c.args.text.now ≡ Some (plain_expr e)) (λ e. IsExpression c.args.text.now (plain_expr e))
    (λ e is. computed_are_expressions c.args.text.now (plain_expr e) is) value

pub returns-clause-none_reads : goal.returns-clause-none_reads
returns-clause-none_reads c = λ bad. none_computed c.args.text.now (sym (ap expression_of c.as_str.ensures) ∙ c.read_text.ensures.bad bad)
