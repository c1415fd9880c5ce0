use Rattle.std.proofs.Common.{refl}
use denote.Hole.Carrier.{hidden}
use Rattle.va_tree.specs.declared.expr.Arg.TheBlock.{hidden-the_row-Expr-0, shape-the_row-Expr-0, hidden-the_row-Arg-1, shape-the_row-Arg-1}
use Rattle.va_tree.specs.declared.stmt.Stmt.TheBlock.{hidden-the_row-Stmt-0, shape-the_row-Stmt-0, hidden-the_row-Stmt-1, shape-the_row-Stmt-1, hidden-the_row-CaseItem-2, shape-the_row-CaseItem-2, hidden-the_row-CaseDefault-3, shape-the_row-CaseDefault-3}
use Rattle.va_sem.proofs.worked.wrong_kinds_worked_by_hand.Goals as goal

-- each row by computation
pub returns : goal.returns
unfolding hidden-the_row-Expr-0 shape-the_row-Expr-0 hidden-the_row-Arg-1 shape-the_row-Arg-1 hidden-the_row-Stmt-0 shape-the_row-Stmt-0 hidden-the_row-Stmt-1 shape-the_row-Stmt-1 hidden-the_row-CaseItem-2 shape-the_row-CaseItem-2 hidden-the_row-CaseDefault-3 shape-the_row-CaseDefault-3 hidden
returns c = record {
  node_as_value = refl;
  parameter_assigned = refl;
  function_in_itself = refl;
  function_as_value = refl;
  label_read = refl;
  branch_in_pair = refl;
  hidden_node = refl;
  variable_takes_access = refl;
  access_of_expression = refl;
  access_of_three = refl;
  access_in_function = refl;
  contribution_in_function = refl;
  access_in_task_of_function = refl;
  builtin_contributed = refl;
  task_in_expression = refl;
  system_function_as_task = refl;
  given_of_node = refl;
  limit_of_function = refl;
  access_is_no_name = refl;
  units_are_no_string = refl;
  alias_of_node = refl;
}
