use Rattle.std.proofs.Common.{refl}
use denote.Hole.Carrier.{hidden}
use Rattle.va_tree.specs.declared.expr.Arg.TheBlock.{hidden-the_row-Expr-0, shape-the_row-Expr-0, hidden-the_row-Arg-1, shape-the_row-Arg-1}
use Rattle.va_tree.specs.declared.stmt.Stmt.TheBlock.{hidden-the_row-Stmt-0, shape-the_row-Stmt-0, hidden-the_row-Stmt-1, shape-the_row-Stmt-1, hidden-the_row-CaseItem-2, shape-the_row-CaseItem-2, hidden-the_row-CaseDefault-3, shape-the_row-CaseDefault-3}
use Rattle.va_sem.proofs.worked.unknown_names_worked_by_hand.Goals as goal

-- each row by computation
pub returns : goal.returns
unfolding hidden-the_row-Expr-0 shape-the_row-Expr-0 hidden-the_row-Arg-1 shape-the_row-Arg-1 hidden-the_row-Stmt-0 shape-the_row-Stmt-0 hidden-the_row-Stmt-1 shape-the_row-Stmt-1 hidden-the_row-CaseItem-2 shape-the_row-CaseItem-2 hidden-the_row-CaseDefault-3 shape-the_row-CaseDefault-3 hidden
returns c = record {
  in_order = refl;
  no_meaning = refl;
  no_access = refl;
  names_before_types = refl;
  builtin_without_parentheses = refl;
  discipline_as_value = refl;
  direction_of_no_port = refl;
  direction_with_discipline = refl;
  undeclared_discipline = refl;
  own_parent = refl;
  later_parent = refl;
  later_nature = refl;
  builtin_declared_later = refl;
  later_discipline = refl;
  alias_of_itself = refl;
  alias_in_circle = refl;
  use_of_alias_of_nothing = refl;
  alias_of_later = refl;
  label_in_function = refl;
  contribution_of_nothing = refl;
  limit_arguments_resolved = refl;
  access_of_a_nature_named_as_discipline = refl;
  access_of_parent = refl;
}
