use Rattle.std.proofs.Common.{arith}
use Rattle.c_tree.specs.rules.Tables.{load_numbers}
use Rattle.c_raw.specs.Views.{load_view, module_view}
use Rattle.c_form.proofs.Blaming.{blames_element, blames_last}
use Rattle.c_form.proofs.ranges.loads.Goals as goal

pub loop-found-preserved : goal.loop-found-preserved
loop-found-preserved c = λ new more.
    c.loop-found.invariant new
    (blames_element load_view (load_numbers (module_view c.args.tree.now)) _ _ new c.args.list.now c.loop-found.found-index c.found-item.result (omega arith) c.found-item.is
    c.load.ensures more)

pub returns : goal.returns
returns c = c.loop-found.invariant _ (blames_last load_view (load_numbers (module_view c.args.tree.now)) _ c.args.list.now c.loop-found.found-index (omega arith))
