use Rattle.std.proofs.Common.{refl}
use denote.Hole.Carrier.{hidden}
use Rattle.va_tree.specs.declared.expr.Arg.TheBlock.{hidden-the_row-Expr-0, shape-the_row-Expr-0, hidden-the_row-Arg-1, shape-the_row-Arg-1}
use Rattle.va_tree.specs.declared.stmt.Stmt.TheBlock.{hidden-the_row-Stmt-0, shape-the_row-Stmt-0, hidden-the_row-Stmt-1, shape-the_row-Stmt-1, hidden-the_row-CaseItem-2, shape-the_row-CaseItem-2, hidden-the_row-CaseDefault-3, shape-the_row-CaseDefault-3}
use Rattle.va_sem.proofs.worked.remainders_worked_by_hand.Goals as goal

-- each row by computation
pub returns : goal.returns
unfolding hidden-the_row-Expr-0 shape-the_row-Expr-0 hidden-the_row-Arg-1 shape-the_row-Arg-1 hidden-the_row-Stmt-0 shape-the_row-Stmt-0 hidden-the_row-Stmt-1 shape-the_row-Stmt-1 hidden-the_row-CaseItem-2 shape-the_row-CaseItem-2 hidden-the_row-CaseDefault-3 shape-the_row-CaseDefault-3 hidden
returns c = record {
  of_integers = refl;
  of_real = refl;
  of_large_numeral = refl;
  of_scaled_numeral = refl;
  of_real_variable = refl;
  constant_comes_first = refl;
  of_simparam = refl;
  of_abs_of_none = refl;
  of_simparam_of_three = refl;
  of_given_of_variable = refl;
  of_function_of_none = refl;
  of_power = refl;
  of_quotient = refl;
  of_choice = refl;
  of_comparison = refl;
  of_minimum = refl;
  of_function = refl;
  of_argument = refl;
  of_parameter = refl;
  of_real_parameter = refl;
}
