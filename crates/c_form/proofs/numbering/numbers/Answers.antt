use Rattle.std.proofs.Common.{arith}
use Rattle.c_tree.specs.rules.Numbering.{wants}
use Rattle.c_raw.specs.Blocks.{at_view}
use Rattle.c_form.proofs.Blaming.{blames_at, blames_last}
use Rattle.c_form.proofs.numbering.numbers.Goals as goal

pub loop-number-preserved : goal.loop-number-preserved
loop-number-preserved c = λ new more.
    c.loop-number.invariant new
    (blames_at at_view (wants c.args.wanted) _ _ new c.args.list.now c.loop-number.number-index _ (omega arith)
    c.wants.ensures more)

pub returns : goal.returns
returns c = c.loop-number.invariant _ (blames_last at_view (wants c.args.wanted) _ c.args.list.now c.loop-number.number-index (omega arith))
