use Rattle.std.proofs.Common.{refl}
use denote.Hole.Carrier.{hidden}
use Rattle.va_tree.specs.declared.expr.Arg.TheBlock.{hidden-the_row-Expr-0, shape-the_row-Expr-0, hidden-the_row-Arg-1, shape-the_row-Arg-1}
use Rattle.va_tree.specs.declared.stmt.Stmt.TheBlock.{hidden-the_row-Stmt-0, shape-the_row-Stmt-0, hidden-the_row-Stmt-1, shape-the_row-Stmt-1, hidden-the_row-CaseItem-2, shape-the_row-CaseItem-2, hidden-the_row-CaseDefault-3, shape-the_row-CaseDefault-3}
use Rattle.va_examples.proofs.worked.statements_worked_by_hand.Goals as goal

-- each row by computation
pub returns : goal.returns
unfolding hidden-the_row-Expr-0 shape-the_row-Expr-0 hidden-the_row-Arg-1 shape-the_row-Arg-1 hidden-the_row-Stmt-0 shape-the_row-Stmt-0 hidden-the_row-Stmt-1 shape-the_row-Stmt-1 hidden-the_row-CaseItem-2 shape-the_row-CaseItem-2 hidden-the_row-CaseDefault-3 shape-the_row-CaseDefault-3 hidden
returns c = record {
  counted_turns = refl;
  turns_beyond_the_bound = refl;
  undefined_in_the_first_turn = refl;
  count_below_one = refl;
  default_stands_anywhere = refl;
  default_where_none_is = refl;
  no_item_and_no_default = refl;
  initial_step = refl;
  final_step = refl;
  block_of_the_final_step = refl;
  task_without_effect = refl;
}
