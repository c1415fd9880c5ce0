use Rattle.std.proofs.Common.{refl}
use denote.Hole.Carrier.{hidden}
use Rattle.va_tree.specs.declared.expr.Arg.TheBlock.{hidden-the_row-Expr-0, shape-the_row-Expr-0, hidden-the_row-Arg-1, shape-the_row-Arg-1}
use Rattle.va_tree.specs.declared.stmt.Stmt.TheBlock.{hidden-the_row-Stmt-0, shape-the_row-Stmt-0, hidden-the_row-Stmt-1, shape-the_row-Stmt-1, hidden-the_row-CaseItem-2, shape-the_row-CaseItem-2, hidden-the_row-CaseDefault-3, shape-the_row-CaseDefault-3}
use Rattle.va_examples.proofs.worked.calls_worked_by_hand.Goals as goal

-- each row by computation
pub returns : goal.returns
unfolding hidden-the_row-Expr-0 shape-the_row-Expr-0 hidden-the_row-Arg-1 shape-the_row-Arg-1 hidden-the_row-Stmt-0 shape-the_row-Stmt-0 hidden-the_row-Stmt-1 shape-the_row-Stmt-1 hidden-the_row-CaseItem-2 shape-the_row-CaseItem-2 hidden-the_row-CaseDefault-3 shape-the_row-CaseDefault-3 hidden
returns c = record {
  first_argument_squared = refl;
  through_the_argument_that_counts = refl;
  nested_call = refl;
  nested_call_columns = refl;
  names_without_fault = refl;
  tokens_of_names = refl;
  arguments_that_are_not_looked_at = refl;
}
