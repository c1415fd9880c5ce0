use Rattle.std.proofs.Common.{arith}
use Rattle.c_form_types.proofs.Operands.{arguments-step, arguments-last}
use Rattle.c_form_types.proofs.right_sides.arguments_differ.Goals as goal

pub loop-index-preserved : goal.loop-index-preserved
loop-index-preserved c = λ p k new more.
    c.loop-index.invariant p k new
    (arguments-step p _ _ new c.args.all_wanted.now c.args.args.now c.loop-index.index _ c.type_at-ty.result (omega arith) c.type_at-ty.ensures
    (c.in_ok-wanted_by.ensures p k) more)

pub returns : goal.returns
returns c = λ p k. c.loop-index.invariant p k _ (arguments-last p _ c.args.all_wanted.now c.args.args.now c.loop-index.index (omega arith))
