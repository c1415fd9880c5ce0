use Rattle.std.proofs.Common.{refl}
use denote.Hole.Carrier.{hidden}
use Rattle.va_tree.specs.declared.expr.Arg.TheBlock.{hidden-the_row-Expr-0, shape-the_row-Expr-0, hidden-the_row-Arg-1, shape-the_row-Arg-1}
use Rattle.va_tree.specs.declared.stmt.Stmt.TheBlock.{hidden-the_row-Stmt-0, shape-the_row-Stmt-0, hidden-the_row-Stmt-1, shape-the_row-Stmt-1, hidden-the_row-CaseItem-2, shape-the_row-CaseItem-2, hidden-the_row-CaseDefault-3, shape-the_row-CaseDefault-3}
use Rattle.va_sem.proofs.worked.accesses_worked_by_hand.Goals as goal

-- each row by computation
pub returns : goal.returns
unfolding hidden-the_row-Expr-0 shape-the_row-Expr-0 hidden-the_row-Arg-1 shape-the_row-Arg-1 hidden-the_row-Stmt-0 shape-the_row-Stmt-0 hidden-the_row-Stmt-1 shape-the_row-Stmt-1 hidden-the_row-CaseItem-2 shape-the_row-CaseItem-2 hidden-the_row-CaseDefault-3 shape-the_row-CaseDefault-3 hidden
returns c = record {
  other_discipline = refl;
  other_discipline_read = refl;
  no_such_nature = refl;
  half_discipline = refl;
  no_such_nature_after = refl;
  same_wrong_node = refl;
  disciplines_differ = refl;
  named_branch_differs = refl;
  one_node = refl;
  named_branch_of_one_node = refl;
  port_without_discipline = refl;
  variable_named_as_port = refl;
}
