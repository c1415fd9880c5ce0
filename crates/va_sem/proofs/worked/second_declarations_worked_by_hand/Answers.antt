use Rattle.std.proofs.Common.{refl}
use denote.Hole.Carrier.{hidden}
use Rattle.va_tree.specs.declared.expr.Arg.TheBlock.{hidden-the_row-Expr-0, shape-the_row-Expr-0, hidden-the_row-Arg-1, shape-the_row-Arg-1}
use Rattle.va_tree.specs.declared.stmt.Stmt.TheBlock.{hidden-the_row-Stmt-0, shape-the_row-Stmt-0, hidden-the_row-Stmt-1, shape-the_row-Stmt-1, hidden-the_row-CaseItem-2, shape-the_row-CaseItem-2, hidden-the_row-CaseDefault-3, shape-the_row-CaseDefault-3}
use Rattle.va_sem.proofs.worked.second_declarations_worked_by_hand.Goals as goal

-- each row by computation
pub returns : goal.returns
unfolding hidden-the_row-Expr-0 shape-the_row-Expr-0 hidden-the_row-Arg-1 shape-the_row-Arg-1 hidden-the_row-Stmt-0 shape-the_row-Stmt-0 hidden-the_row-Stmt-1 shape-the_row-Stmt-1 hidden-the_row-CaseItem-2 shape-the_row-CaseItem-2 hidden-the_row-CaseDefault-3 shape-the_row-CaseDefault-3 hidden
returns c = record {
  ports = refl;
  port_named_as_builtin = refl;
  modules = refl;
  natures = refl;
  variable_and_node = refl;
  builtin_variable = refl;
  left_out_variable = refl;
  second_discipline_of_port = refl;
  second_discipline_of_node = refl;
  labels = refl;
  label_and_variable = refl;
  label_like_its_own_variable = refl;
  in_block = refl;
  block_hides = refl;
  argument_type_is_none = refl;
  second_argument_type = refl;
  second_argument = refl;
  own_name_in_function = refl;
  own_name_as_typed_argument = refl;
  builtin_as_typed_argument = refl;
  second_default = refl;
  second_access = refl;
  second_units_of_wrong_kind = refl;
  second_potential = refl;
  one_nature_for_both = refl;
}
