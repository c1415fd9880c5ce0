use Rattle.std.specs.Prelude.{◌≡◌, zero, suc, ◌==◌, ◌||◌, true, false, None, Some}
use Rattle.std.proofs.Common.{refl, sym, ◌∙◌}
use Rattle.va_sem.specs.declared.branch.Unknown.TheVariants.{Node}
use Rattle.va_sem.specs.declared.names.BranchName.{BranchName}
use Rattle.va_meaning.specs.Motions.{still, moving}
use Rattle.va_meaning.specs.Rows.{is_end}
use Rattle.va_meaning.specs.TimeParts.{IsRowUntimed}
use Rattle.va_meaning.proofs.Motions.{below_then}
use Rattle.va_examples.specs.DynamicExamples.{stored, only_first}
use Rattle.va_examples.specs.Examples.{model}
use Rattle.va_meaning.specs.Timed.{derivative, plain_times, variable}
use denote.Hole.Carrier.{hidden}
use Rattle.va_tree.specs.declared.expr.Arg.TheBlock.{hidden-the_row-Expr-0, shape-the_row-Expr-0, hidden-the_row-Arg-1, shape-the_row-Arg-1}
use Rattle.va_tree.specs.declared.stmt.Stmt.TheBlock.{hidden-the_row-Stmt-0, shape-the_row-Stmt-0, hidden-the_row-Stmt-1, shape-the_row-Stmt-1, hidden-the_row-CaseItem-2, shape-the_row-CaseItem-2, hidden-the_row-CaseDefault-3, shape-the_row-CaseDefault-3}
use Rattle.va_examples.proofs.worked.times_worked_by_hand.Goals as goal

-- the branches of the module, of which the one of number 0 doesn't end at c
other_row : IsRowUntimed (model stored) only_first (Node 1)
unfolding hidden-the_row-Expr-0 shape-the_row-Expr-0 hidden-the_row-Arg-1 shape-the_row-Arg-1 hidden-the_row-Stmt-0 shape-the_row-Stmt-0 hidden-the_row-Stmt-1 shape-the_row-Stmt-1 hidden-the_row-CaseItem-2 shape-the_row-CaseItem-2 hidden-the_row-CaseDefault-3 shape-the_row-CaseDefault-3 hidden
other_row zero branch at e = apart branch (cc (at)) e
  where
    apart : (branch : BranchName) → branch ≡ record { plus = 0; minus = None; name = None } → (branch.plus == 1 || is_end 1 branch.minus) ≡ true → true ≡ false
    apart branch is e = sym e ∙ (λ j. (is j).plus == 1 || is_end 1 (is j).minus)
other_row (suc b) branch at e = absurd (cc (at))

-- the facts that are asked compute; a linear place is told by its case
pub returns : goal.returns
unfolding hidden-the_row-Expr-0 shape-the_row-Expr-0 hidden-the_row-Arg-1 shape-the_row-Arg-1 hidden-the_row-Stmt-0 shape-the_row-Stmt-0 hidden-the_row-Stmt-1 shape-the_row-Stmt-1 hidden-the_row-CaseItem-2 shape-the_row-CaseItem-2 hidden-the_row-CaseDefault-3 shape-the_row-CaseDefault-3 hidden
returns c = record {
  keeps = record { initialisers = tt; functions = λ f. tt; blocks = ((λ e. cc (e), (tt, tt)), tt) };
  linear = ((derivative refl (tt, tt), (plain_times (tt, tt) variable, tt)), tt);
  must_be_timed = λ k. k.blocks.0.0 refl;
  reactive = ((tt, (λ e. cc (e), tt)), tt);
  must_be_reactive = λ k. (let e = (k.0.1.0 refl).1 in cc (e));
  found_reactive = refl;
  row_of_a_is_timed = λ h. (let e = h 0 _ refl refl in cc (e));
  row_of_c_is_untimed = other_row;
  keeps_where_c_moves = record {
    functions = λ f k closed. tt;
    initialisers = tt;
    blocks = (
      (
        (refl, (record { resist = still; react = None }, tt, ((tt, tt), tt))),
        (((refl, (record { resist = still; react = None }, record { resist = still; react = Some still }, (tt, tt, (tt, tt), tt), tt, (tt, tt))), (λ i d. cc (d))), tt),
      ),
      tt,
    );
  };
  c_alone = λ i. refl;
  q_must_move = λ k. (let a = k.blocks.0.0.1 in below_then moving a.0.resist still a.2.0.0 a.1);
  keeps_where_a_moves = record {
    functions = λ f k closed. tt;
    initialisers = tt;
    blocks = (
      (
        (refl, (record { resist = moving; react = None }, tt, ((tt, tt), tt))),
        (((refl, (record { resist = still; react = None }, record { resist = still; react = Some moving }, (tt, tt, (tt, tt), tt), tt, (tt, tt))), (λ i d. cc (d))), tt),
      ),
      tt,
    );
  };
  columns = refl;
  parts_of_rows = refl;
}
