use Rattle.std.proofs.Common.{arith}
use Rattle.c_tree.specs.rules.Bodies.{set_cells}
use Rattle.c_form_reach.specs.Placed.{nothing}
use Rattle.c_form_reach.proofs.Placing.{few-step, listed-last, listed-step}
use Rattle.c_form_reach.proofs.twice.top_cells.Goals as goal

pub loop-statement-preserved : goal.loop-statement-preserved
loop-statement-preserved c = record {
  found =
      listed-step set_cells nothing _ _ _ _ c.loop-statement.around _ c.args.list.now c.loop-statement.statement-index c.statement-item.result (omega arith) c.statement-item.is
      c.around_behind-around.ensures c.in_ok-push_cell.ensures c.top_cell.ensures c.loop-statement.invariant.found;
  few = few-step c.loop-statement.around _ c.loop-statement.statement-index c.statement-item.result c.around_behind-around.ensures c.loop-statement.invariant.few;
}

pub returns : goal.returns
returns c =
    listed-last set_cells nothing _ _ c.loop-statement.around c.args.list.now c.loop-statement.statement-index (omega arith) c.loop-statement.invariant.found
