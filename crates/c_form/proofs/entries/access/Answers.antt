use Rattle.std.proofs.Common.{arith}
use Rattle.c_raw.specs.Views.{access_view, module_view}
use Rattle.c_form.specs.Parts.{access_number}
use Rattle.c_form.proofs.Blaming.{blames_at, blames_last}
use Rattle.c_form.proofs.entries.access.Goals as goal

pub loop-row-preserved : goal.loop-row-preserved
loop-row-preserved c = λ new more.
    c.loop-row.invariant new
    (blames_at access_view (access_number (module_view c.args.tree.now)) _ _ new c.args.list.now c.loop-row.row-index _ (omega arith)
    c.access_number.ensures more)

pub returns : goal.returns
returns c = c.loop-row.invariant _ (blames_last access_view (access_number (module_view c.args.tree.now)) _ c.args.list.now c.loop-row.row-index (omega arith))
