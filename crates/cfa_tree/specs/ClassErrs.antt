-- The error of a class text in which a token can't continue the guard.
use Rattle.cfa_tree.specs.declared.class_texts.ExprErr.{ExprErr}
use Rattle.cfa_tree.specs.declared.class_texts.ExprErr.TheVariants.{BadExpression, NoMemory}
use Rattle.cfa_tree.specs.declared.guards.GuardErr.{GuardErr}
use Rattle.cfa_tree.specs.declared.guards.GuardErr.TheVariants as guards

abbrev pub err_of : GuardErr → ExprErr
err_of guards.Unexpected = BadExpression
err_of guards.TooDeep = BadExpression
err_of guards.NoMemory = NoMemory
