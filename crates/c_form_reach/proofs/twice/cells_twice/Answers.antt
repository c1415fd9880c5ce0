use Rattle.std.proofs.Common.{arith, ap, ◌∙◌}
use Rattle.std.specs.Prelude.{map, false}
use Rattle.c_tree.specs.Form.{least_of}
use Rattle.c_tree.specs.rules.Reach.{same_cell}
use Rattle.c_raw.specs.Blocks.{at_view}
use Rattle.c_form.proofs.Blaming.{blames_as}
use Rattle.c_form.proofs.Seen.{again-end, again-same, again-step, blames_like, repeated-again}
use Rattle.c_form_reach.specs.Settings.{was_set}
use Rattle.c_form_reach.proofs.Setting.{cell_key, cell_token, cells-again, same_cell-sym, unless-seen}
use Rattle.c_form_reach.proofs.twice.cells_twice.Goals as goal

pub loop-cell-init : goal.loop-cell-init
loop-cell-init c = λ new more.
    blames_as more (again-same cell_token cell_key same_cell (was_set c.no_cells-seen.result) (λ cell. false) (map at_view c.args.cells.now) c.no_cells-seen.ensures)

pub loop-cell-preserved : goal.loop-cell-preserved
loop-cell-preserved c = λ new more.
    c.loop-cell.invariant new
    (again-step cell_token cell_key same_cell at_view _ _ new (was_set c.loop-cell.seen) (was_set c.enter_cell.new.seen) c.args.cells.now c.loop-cell.cell-index _ (omega arith)
    c.in_ok-fresh.ensures.after (blames_as c.blame_unless.ensures (unless-seen _ _ _ c.in_ok-fresh.ensures.fresh)) more)

pub returns : goal.returns
returns c =
    blames_like _ _ _ _
    (c.loop-cell.invariant _ (again-end cell_token cell_key same_cell at_view _ (was_set c.loop-cell.seen) c.args.cells.now c.loop-cell.cell-index (omega arith)))
    (repeated-again cell_token cell_key same_cell same_cell-sym (map at_view c.args.cells.now) ∙ ap least_of (cells-again (map at_view c.args.cells.now)))
