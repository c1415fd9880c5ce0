use Rattle.std.proofs.Common.{arith}
use Rattle.c_tree.specs.rules.Fields.{access_cells}
use Rattle.c_raw.specs.Views.{access_view}
use Rattle.c_form.proofs.Blaming.{blames_at, blames_last}
use Rattle.c_form.proofs.field_rows.access_rows.Goals as goal

pub loop-row-preserved : goal.loop-row-preserved
loop-row-preserved c = λ m k new more.
    c.loop-row.invariant m k new
    (blames_at access_view (access_cells m) _ _ new c.args.list.now c.loop-row.row-index _ (omega arith) (c.in_ok-access_row.ensures m k) more)

pub returns : goal.returns
returns c = λ m k. c.loop-row.invariant m k _ (blames_last access_view (access_cells m) _ c.args.list.now c.loop-row.row-index (omega arith))
