use Rattle.std.proofs.Common.{arith}
use Rattle.c_form.proofs.Pairing.{pair-step, pair-last}
use Rattle.c_form.proofs.descriptors.descriptors_agree.Goals as goal

pub loop-index-preserved : goal.loop-index-preserved
loop-index-preserved c = λ new more.
    c.loop-index.invariant new
    (pair-step _ _ new c.args.modules.now c.args.descriptors.now c.loop-index.index c.index-modules-index.result (omega arith) c.index-modules-index.is
    c.descriptor_at.ensures more)

pub returns : goal.returns
returns c = c.loop-index.invariant _ (pair-last _ c.args.modules.now c.args.descriptors.now c.loop-index.index (omega arith))
