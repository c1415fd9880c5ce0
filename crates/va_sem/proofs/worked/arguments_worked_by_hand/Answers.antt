use Rattle.std.proofs.Common.{refl}
use denote.Hole.Carrier.{hidden}
use Rattle.va_tree.specs.declared.expr.Arg.TheBlock.{hidden-the_row-Expr-0, shape-the_row-Expr-0, hidden-the_row-Arg-1, shape-the_row-Arg-1}
use Rattle.va_tree.specs.declared.stmt.Stmt.TheBlock.{hidden-the_row-Stmt-0, shape-the_row-Stmt-0, hidden-the_row-Stmt-1, shape-the_row-Stmt-1, hidden-the_row-CaseItem-2, shape-the_row-CaseItem-2, hidden-the_row-CaseDefault-3, shape-the_row-CaseDefault-3}
use Rattle.va_sem.proofs.worked.arguments_worked_by_hand.Goals as goal

-- each row by computation
pub returns : goal.returns
unfolding hidden-the_row-Expr-0 shape-the_row-Expr-0 hidden-the_row-Arg-1 shape-the_row-Arg-1 hidden-the_row-Stmt-0 shape-the_row-Stmt-0 hidden-the_row-Stmt-1 shape-the_row-Stmt-1 hidden-the_row-CaseItem-2 shape-the_row-CaseItem-2 hidden-the_row-CaseDefault-3 shape-the_row-CaseDefault-3 hidden
returns c = record {
  exp_of_two = refl;
  pow_of_one = refl;
  min_of_three = refl;
  ddt_of_two = refl;
  function_of_one = refl;
  temperature_of_one = refl;
  thermal_voltage = refl;
  thermal_voltage_of_two = refl;
  simparam_without_default = refl;
  limit_of_none = refl;
  task_of_any = refl;
  at_the_final_step = refl;
  string_for_number = refl;
  number_for_string = refl;
  limit_of_access = refl;
  limit_of_parentheses = refl;
  given_of_parameter = refl;
  given_of_variable = refl;
  given_of_parentheses = refl;
}
