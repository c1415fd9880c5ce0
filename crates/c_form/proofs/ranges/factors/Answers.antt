use Rattle.std.proofs.Common.{arith}
use Rattle.c_tree.specs.rules.Tables.{factor_number}
use Rattle.c_raw.specs.Blocks.{at_view}
use Rattle.c_raw.specs.Views.{module_view}
use Rattle.c_form.proofs.Blaming.{blames_at, blames_last}
use Rattle.c_form.proofs.ranges.factors.Goals as goal

pub loop-found-preserved : goal.loop-found-preserved
loop-found-preserved c = λ new more.
    c.loop-found.invariant new
    (blames_at at_view (factor_number (module_view c.args.tree.now)) _ _ new c.args.list.now c.loop-found.found-index _ (omega arith)
    c.factor.ensures more)

pub returns : goal.returns
returns c = c.loop-found.invariant _ (blames_last at_view (factor_number (module_view c.args.tree.now)) _ c.args.list.now c.loop-found.found-index (omega arith))
