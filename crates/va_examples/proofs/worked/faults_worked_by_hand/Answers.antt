use Rattle.std.proofs.Common.{refl}
use denote.Hole.Carrier.{hidden}
use Rattle.va_tree.specs.declared.expr.Arg.TheBlock.{hidden-the_row-Expr-0, shape-the_row-Expr-0, hidden-the_row-Arg-1, shape-the_row-Arg-1}
use Rattle.va_tree.specs.declared.stmt.Stmt.TheBlock.{hidden-the_row-Stmt-0, shape-the_row-Stmt-0, hidden-the_row-Stmt-1, shape-the_row-Stmt-1, hidden-the_row-CaseItem-2, shape-the_row-CaseItem-2, hidden-the_row-CaseDefault-3, shape-the_row-CaseDefault-3}
use Rattle.va_examples.proofs.worked.faults_worked_by_hand.Goals as goal

-- each row by computation
pub returns : goal.returns
unfolding hidden-the_row-Expr-0 shape-the_row-Expr-0 hidden-the_row-Arg-1 shape-the_row-Arg-1 hidden-the_row-Stmt-0 shape-the_row-Stmt-0 hidden-the_row-Stmt-1 shape-the_row-Stmt-1 hidden-the_row-CaseItem-2 shape-the_row-CaseItem-2 hidden-the_row-CaseDefault-3 shape-the_row-CaseDefault-3 hidden
returns c = record {
  unknown_name = refl;
  twice_declared = refl;
  own_name_with_a_type = refl;
  wrong_kind = refl;
  wrong_access = refl;
  disciplines_differ = refl;
  not_declared_node = refl;
  function_cycle = refl;
  out_of_profile = refl;
  argument_count = refl;
  argument_kind = refl;
  not_constant = refl;
  real_operand = refl;
  operand_without_type = refl;
  ddt_nonlinear = refl;
  ddt_under_bias = refl;
  ddt_in_loop = refl;
  ddt_in_function = refl;
  ddt_twice = refl;
  switch_branch = refl;
  flow_probe = refl;
  collapse_probed = refl;
  none = refl;
}
